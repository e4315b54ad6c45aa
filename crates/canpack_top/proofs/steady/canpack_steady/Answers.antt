use Rattle.std.proofs.Common.{arith, refl}
use Rattle.pack_base.specs.SteadyFolder.{files_of, write_faults_of}
use Rattle.canpack_top.proofs.SteadyLaws.{no_read_fault, refused_steady}
use Rattle.canpack_top.proofs.steady.canpack_steady.Goals as goal

pub returns-clause-no_fault : goal.returns-clause-no_fault
returns-clause-no_fault g c = (λ two. no_read_fault c.args.words.now (c.canpack.ensures.read_fault two), λ seven. let rose = c.canpack.ensures.say_fault seven in omega (arith, rose))

pub returns-clause-refuses : goal.returns-clause-refuses
returns-clause-refuses g c = λ refused.
    refused_steady c.args.words.now (files_of c.args.folder.now) (files_of c.canpack.new.folder) (write_faults_of c.args.folder.now)
    (write_faults_of c.canpack.new.folder) c.canpack.result refl refused (c.canpack.ensures.refuses refl refused) (λ two. no_read_fault c.args.words.now (c.canpack.ensures.read_fault two))
    (λ seven. let rose = c.canpack.ensures.say_fault seven in omega (arith, rose)) c.canpack.ensures.write_fault

pub returns-clause-planned : goal.returns-clause-planned
returns-clause-planned g c = λ ends branches plan.
    let said = c.canpack.ensures.planned ends refl branches plan in
    (said.0, said.3)
