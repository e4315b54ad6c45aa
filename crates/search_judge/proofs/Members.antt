-- Frames that are stuck: the stage of each, and what its evidence says.
use Rattle.std.proofs.Common.{◌≡◌, ℕ, ◌+◌, ◌-◌, ◌≤◌, List, [], ◌∷◌, ◌++◌, length, drop, Contains, sym, ap, subst, ◌∙◌, length-append}
use Rattle.std.proofs.lemmas.List.{append_assoc, drop_at}
use Rattle.busy_period.specs.declared.timed.Timed.{Timed}
use Rattle.busy_period.specs.Stage.{IsStage, higher_of, lower_of, own_number}
use Rattle.response_test.specs.declared.evidence.Evidence.{Evidence}
use Rattle.response_test.specs.Frame.{FramePasses, PassesAgainst}
use Rattle.response_test.specs.Order.{others_of, remaining_of}
use Rattle.response_test.specs.Refuted.{IsEvidenceOfStage}
use Rattle.grouping_tree.proofs.Options.{get_or-next, take-front}
use Rattle.bandwidth_bound.specs.Failing.{order_below}
use Rattle.bandwidth_bound.proofs.Final.{distinct_rising}
use Rattle.bandwidth_bound.proofs.FinalNamed.{few_below, place-below, room-below, stage-below}
use Rattle.search_judge.specs.Stuck.{AreStuck, HasEvidence}

-- there are at most as many as frames
pub few_members : (frames : List Timed) (bit : ℕ) (members : List ℕ) → AreStuck frames bit members
    → length members ≤ length frames
few_members frames bit members stuck =
    few_below members (length frames) (distinct_rising members stuck.ascending) stuck.failing.named

-- the order of a member has room
pub order_room : (frames : List Timed) (bit : ℕ) (members rest : List ℕ) (own : ℕ) → AreStuck frames bit members
    → Contains members own → rest ≡ remaining_of frames members
    → length (others_of own members) + 1 + length rest ≤ 128
order_room frames bit members rest own stuck among is =
    room-below frames members rest own stuck.few stuck.in_range stuck.failing.named stuck.ascending among is

-- and it is that of a stage
pub member_stage : (frames : List Timed) (bit : ℕ) (members order rest : List ℕ) (own place : ℕ)
    → AreStuck frames bit members → Contains members own → rest ≡ remaining_of frames members
    → order ≡ others_of own members ++ own ∷ rest → place ≡ length order - length rest - 1
    → IsStage frames order place
member_stage frames bit members order rest own place stuck among rest_is is at =
    stage-below frames members order rest own place stuck.few stuck.in_range stuck.failing.named stuck.ascending
    among rest_is is (place-below members order rest own place is at)

-- a frame that passes in the order passes below the other members
passes_below : (frames : List Timed) (bit : ℕ) (members : List ℕ) (own : ℕ)
    → FramePasses frames (order_below frames members own) (length (others_of own members)) bit
    → PassesAgainst frames own (others_of own members) (remaining_of frames members) bit
passes_below frames bit members own passes =
    let others : List ℕ = others_of own members in
    let rest : List ℕ = remaining_of frames members in
    let order : List ℕ = order_below frames members own in
    let place : ℕ = length others in
    let at : own_number order place ≡ own = get_or-next others rest own 0 in
    let above : higher_of order place ≡ others = take-front others (own ∷ rest) in
    let below : lower_of order place ≡ rest =
    ap (drop (place + 1)) (sym (append_assoc others (own ∷ []) rest))
    ∙ drop_at (others ++ own ∷ []) rest (place + 1) (length-append others (own ∷ [])) in
    subst (λ n. PassesAgainst frames n others rest bit) at
    (subst (λ ys. PassesAgainst frames (own_number order place) ys rest bit) above
    (subst (λ ys. PassesAgainst frames (own_number order place) (higher_of order place) ys bit) below passes))

-- so a member doesn't pass there
pub member_fails : (frames : List Timed) (bit : ℕ) (members order rest : List ℕ) (own place : ℕ)
    → AreStuck frames bit members → Contains members own → rest ≡ remaining_of frames members
    → order ≡ others_of own members ++ own ∷ rest → place ≡ length order - length rest - 1
    → ¬ (FramePasses frames order place bit)
member_fails frames bit members order rest own place stuck among rest_is is at passes =
    let whole : order ≡ order_below frames members own =
    is ∙ ap (λ xs. others_of own members ++ own ∷ xs) rest_is in
    let here : place ≡ length (others_of own members) = place-below members order rest own place is at in
    stuck.failing.fails own among
    (passes_below frames bit members own
    (subst (λ n. FramePasses frames (order_below frames members own) n bit) here
    (subst (λ xs. FramePasses frames xs place bit) whole passes)))

-- and the evidence of the stage is that of the member
pub member_evidence : (frames : List Timed) (bit hyper : ℕ) (members order rest : List ℕ) (own place : ℕ)
    (evidence : Evidence) → rest ≡ remaining_of frames members
    → order ≡ others_of own members ++ own ∷ rest → place ≡ length order - length rest - 1
    → IsEvidenceOfStage frames order place bit hyper evidence
    → HasEvidence frames bit hyper members (own, evidence)
member_evidence frames bit hyper members order rest own place evidence rest_is is at found =
    let whole : order ≡ order_below frames members own =
    is ∙ ap (λ xs. others_of own members ++ own ∷ xs) rest_is in
    let here : place ≡ length (others_of own members) = place-below members order rest own place is at in
    subst (λ n. IsEvidenceOfStage frames (order_below frames members own) n bit hyper evidence) here
    (subst (λ xs. IsEvidenceOfStage frames xs place bit hyper evidence) whole found)
