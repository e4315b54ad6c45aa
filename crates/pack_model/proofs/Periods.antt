-- The steps of the loop over the periods of the signals.
use Rattle.std.proofs.Common.{◌≡◌, ◌≤◌, ◌<◌, ◌+◌, ◌*◌, ℕ, List, length, fold, drop, get_or, sym, ap, subst, ◌∙◌, arith, All}
use Rattle.std.proofs.lemmas.List.Elements.{All-map, All-drop}
use Rattle.std.proofs.Math.Nat.{mul-le-mul}
use Rattle.pack_model.specs.declared.network.Network.{Network}
use Rattle.pack_model.specs.declared.signal.Signal.{Signal}
use Rattle.pack_model.specs.Network.{NetworkStands}
use Rattle.pack_model.specs.Signal.{SignalStands}
use Rattle.pack_model.specs.Problem.{Parts, IsProblem, lcm, periods_of, hyper_of, IsCommonPeriod}
use Rattle.pack_model.proofs.Laws.{tests}
use Rattle.pack_model.proofs.Multiples.{lcm_some, fold_lcm_up, common_period}
use Rattle.pack_model.proofs.ListLaws.{drop-map_cons}

-- each period is at least a tick
pub periods_some : (network : Network) (signals : List Signal) → NetworkStands network
    → All SignalStands signals → All (λ period. 1 ≤ period) (periods_of network signals)
periods_some network signals stands all =
    All-map (λ period. 1 ≤ period) (λ (s : Signal). network.ticks_per_us * s.period_us) signals
    (λ k d lt. let low = (all k d lt).period_low in let tick = stands.ticks_low in
    let product : 1 * 1 ≤ network.ticks_per_us * (get_or signals k d).period_us = mul-le-mul tick low in
    omega arith)

-- the common period of a problem's signals
pub common_period_of : (network : Network) (signals : List Signal) → NetworkStands network
    → All SignalStands signals → IsCommonPeriod (periods_of network signals) (hyper_of network signals)
common_period_of network signals stands all =
    common_period (periods_of network signals) (periods_some network signals stands all)

-- a signal's period is at least a tick
pub period_some : (network : Network) (signals : List Signal) (i : ℕ) (s : Signal) (period : ℕ)
    → NetworkStands network → All SignalStands signals → i < length signals → s ≡ get_or signals i s
    → period ≡ network.ticks_per_us * s.period_us → 1 ≤ period
period_some network signals i s period stands all lt at is =
    let here : SignalStands s = subst SignalStands (sym at) (all i s lt) in
    let low = here.period_low in
    let tick = stands.ticks_low in
    let product : 1 * 1 ≤ network.ticks_per_us * s.period_us = mul-le-mul tick low in
    omega arith

-- the periods that are left, with one of them
periods_left : (network : Network) (signals : List Signal) (i : ℕ) (s : Signal) (hyper period : ℕ)
    → i < length signals → s ≡ get_or signals i s → period ≡ network.ticks_per_us * s.period_us
    → fold lcm hyper (drop i (periods_of network signals))
    ≡ fold lcm (lcm hyper period) (drop (i + 1) (periods_of network signals))
periods_left network signals i s hyper period lt at is =
    ap (fold lcm hyper) (drop-map_cons (λ (t : Signal). network.ticks_per_us * t.period_us) signals i s lt at)
    ∙ ap (λ p. fold lcm (lcm hyper p) (drop (i + 1) (periods_of network signals))) (sym is)

-- the step of the loop over the periods
pub period_more : (network : Network) (signals : List Signal) (i : ℕ) (s : Signal) (hyper period multiple : ℕ)
    → i < length signals → s ≡ get_or signals i s → period ≡ network.ticks_per_us * s.period_us
    → multiple ≡ lcm hyper period
    → fold lcm hyper (drop i (periods_of network signals)) ≡ hyper_of network signals
    → fold lcm multiple (drop (i + 1) (periods_of network signals)) ≡ hyper_of network signals
period_more network signals i s hyper period multiple lt at is least rest =
    ap (λ m. fold lcm m (drop (i + 1) (periods_of network signals))) least
    ∙ sym (periods_left network signals i s hyper period lt at is) ∙ rest

-- a common multiple of some periods is not above that of all
pub period_least : (network : Network) (signals : List Signal) (i : ℕ) (s : Signal) (hyper period : ℕ)
    → NetworkStands network → All SignalStands signals → i < length signals → s ≡ get_or signals i s
    → period ≡ network.ticks_per_us * s.period_us → 1 ≤ hyper → 1 ≤ period
    → fold lcm hyper (drop i (periods_of network signals)) ≡ hyper_of network signals
    → lcm hyper period ≤ hyper_of network signals
period_least network signals i s hyper period stands all lt at is some low rest =
    subst (λ n. lcm hyper period ≤ n) (sym (periods_left network signals i s hyper period lt at is) ∙ rest)
    (fold_lcm_up (lcm hyper period) (drop (i + 1) (periods_of network signals))
    (lcm_some hyper period some low)
    (All-drop (λ period. 1 ≤ period) (i + 1) (periods_of network signals)
    (periods_some network signals stands all)))

-- the common period of a problem that stands
pub problem_period : (p : Parts) → IsProblem p → IsCommonPeriod (periods_of p.network p.signals) p.hyper
problem_period p stands =
    subst (λ n. IsCommonPeriod (periods_of p.network p.signals) n) (sym (tests p stands).hyper)
    (common_period_of p.network p.signals stands.network stands.signals)
