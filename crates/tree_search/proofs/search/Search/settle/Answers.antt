use Rattle.tree_search.specs.declared.finding.Finding.TheVariants.{Bounded, Failed, Complete, Parted}
use Rattle.tree_search.proofs.Steps.{settled}
use Rattle.tree_search.proofs.search.Search.settle.Goals as goal

pub returns-in_ok-from-in-Bounded-clause-gives : goal.returns-in_ok-from-in-Bounded-clause-gives
returns-in_ok-from-in-Bounded-clause-gives c = λ x at.
    let told = c.in_ok-from-in-Bounded.ensures in
    settled c.args.problem.now c.args.self.now c.close.new.self Bounded c.args.finding
    c.in_ok-from-in-Bounded.from x at c.requires.open c.in-Bounded.is told.goes_on (λ e. cc) told.nodes told.rest
    told.best told.found

pub returns-in_ok-from-in-Failed-clause-gives : goal.returns-in_ok-from-in-Failed-clause-gives
returns-in_ok-from-in-Failed-clause-gives c = λ x at.
    let told = c.in_ok-from-in-Failed.ensures in
    settled c.args.problem.now c.args.self.now c.close-in-Failed.new.self (Failed c.in-Failed.refuted) c.args.finding
    c.in_ok-from-in-Failed.from x at c.requires.open c.in-Failed.is told.goes_on (λ e. cc) told.nodes told.rest
    told.best told.found

pub returns-in_ok-from-in-Complete-clause-gives : goal.returns-in_ok-from-in-Complete-clause-gives
returns-in_ok-from-in-Complete-clause-gives c = λ x at.
    let told = c.in_ok-from-in-Complete.ensures in
    settled c.args.problem.now c.args.self.now c.complete.new.self (Complete c.in-Complete.load c.in-Complete.order) c.args.finding
    c.in_ok-from-in-Complete.from x at c.requires.open c.in-Complete.is told.goes_on (λ e. cc) told.nodes told.rest
    told.best told.found

pub returns-in_ok-from-in-Parted-clause-gives : goal.returns-in_ok-from-in-Parted-clause-gives
returns-in_ok-from-in-Parted-clause-gives c = λ x at.
    let told = c.in_ok-from-in-Parted.ensures in
    settled c.args.problem.now c.args.self.now c.part.new.self Parted c.args.finding
    c.in_ok-from-in-Parted.from x at c.requires.open c.in-Parted.is told.goes_on (λ e. c.requires.left c.in-Parted.is) told.nodes told.rest
    told.best told.found
