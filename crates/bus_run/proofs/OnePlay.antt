-- Only one run follows given picks.
use Rattle.std.proofs.Common.{◌≡◌, ℕ, ◌+◌, ◌<◌, ◌≤◌, zero, suc, inl, inr, List, length, replicate, refl, sym, ap, subst, ◌∙◌, arith}
use Rattle.std.proofs.lemmas.Bool.{cases_lt}
use Rattle.std.proofs.lemmas.List.{get_or_default, same_lists}
use Rattle.pack_model.specs.declared.network.Network.{Network}
use Rattle.frame_ticks.specs.Bits.{bits_of}
use Rattle.frame_ticks.specs.Ticks.{ticks_of}
use Rattle.bus_run.specs.declared.run.BusFrame.{BusFrame}
use Rattle.bus_run.specs.declared.run.Release.{Release}
use Rattle.bus_run.specs.declared.run.Sent.{Sent}
use Rattle.bus_run.specs.declared.playing.Pick.{Pick}
use Rattle.bus_run.specs.Frames.{bus_frame_at}
use Rattle.bus_run.specs.Run.{Course, none_sent, send_at, carried_by, end_before, IsUnsent}
use Rattle.bus_run.specs.Rules.{Starts, StartsInTime, SendStands, RunStands}
use Rattle.bus_run.specs.Played.{pick_at, contends_by, Follows}

-- a send is what its fields are
same_sends : (s t : Sent) → s.release ≡ t.release → s.start ≡ t.start → s.esi ≡ t.esi → s.payload ≡ t.payload
    → s.ticks ≡ t.ticks → s ≡ t
same_sends s t release start esi payload ticks =
    ap (λ x. record { release = x; start = s.start; esi = s.esi; payload = s.payload; ticks = s.ticks })
    release
    ∙ ap (λ x. record { release = t.release; start = x; esi = s.esi; payload = s.payload; ticks = s.ticks })
    start
    ∙ ap (λ x. record { release = t.release; start = t.start; esi = x; payload = s.payload; ticks = s.ticks })
    esi
    ∙ ap (λ x. record { release = t.release; start = t.start; esi = t.esi; payload = x; ticks = s.ticks })
    payload
    ∙ ap (λ x. record { release = t.release; start = t.start; esi = t.esi; payload = t.payload; ticks = x })
    ticks

-- a run of these releases and sends
abbrev course : List Release → ℕ → List Sent → Course
course releases until sends = record { releases = releases; sends = sends; until = until }

module _ (releases : List Release) (until : ℕ) where
  -- the first sends of two runs are the same
  abbrev Agree : List Sent → List Sent → ℕ → Type 0
  Agree sends others number =
      (i : ℕ) → i < number → send_at (course releases until sends) i
      ≡ send_at (course releases until others) i

  unsent_agrees : (sends others : List Sent) (number release : ℕ) → Agree sends others number
      → IsUnsent (course releases until sends) number release
      → IsUnsent (course releases until others) number release
  unsent_agrees sends others number release agree it = record {
    there = it.there;
    unsent = λ earlier before carries. it.unsent earlier before
        (ap (λ (s : Sent). s.release) (agree earlier before) ∙ carries);
  }

  back : (sends others : List Sent) (number : ℕ) → Agree sends others number → Agree others sends number
  back sends others number agree = λ i below. sym (agree i below)

  end_agrees : (sends others : List Sent) (number : ℕ) → Agree sends others number
      → end_before (course releases until sends) number ≡ end_before (course releases until others) number
  end_agrees sends others zero agree = refl
  end_agrees sends others (suc number) agree =
      ap (λ (s : Sent). s.start + s.ticks) (agree number (omega arith))

  module _ (network : Network) (frames : List BusFrame) (picks : List Pick) where
    -- a send stands, and follows its pick
    abbrev Sends : List Sent → ℕ → Type 0
    Sends sends number = SendStands network frames (course releases until sends) number
        × Follows network frames (pick_at picks number) (course releases until sends) number

    -- where the first sends are the same, the next starts no later in one than in the other
    starts_no_later : (sends others : List Sent) (number : ℕ) → Agree sends others number → Sends sends number
        → Sends others number
        → (send_at (course releases until sends) number).start
        ≤ (send_at (course releases until others) number).start
    starts_no_later sends others number agree one other =
        let s : Starts (course releases until sends) number
        (send_at (course releases until sends) number).start = one.0.starts.starts in
        let t : Starts (course releases until others) number
        (send_at (course releases until others) number).start = other.0.starts.starts in
        omega (
          arith,
          s.then,
          t.then,
          end_agrees sends others number agree,
          s.least t.release (unsent_agrees others sends number t.release (back sends others number agree)
              t.unsent),
        )

    -- and is of no lower frame
    no_lower : (sends others : List Sent) (number : ℕ) → Agree sends others number → Sends sends number
        → Sends others number
        → (send_at (course releases until sends) number).start
        ≡ (send_at (course releases until others) number).start
        → (carried_by (course releases until sends) number).frame
        ≤ (carried_by (course releases until others) number).frame
    no_lower sends others number agree one other start =
        elim (cases_lt (carried_by (course releases until others) number).frame
        (carried_by (course releases until sends) number).frame) [
          | inr le ↦ le
          | inl less ↦
              let r : ℕ = (send_at (course releases until others) number).release in
              let unsent : IsUnsent (course releases until sends) number r =
              unsent_agrees others sends number r
              (back sends others number agree) other.0.takes_first.unsent in
              absurd (omega (
                arith,
                one.1.highest r unsent less,
                other.1.contends,
                ap (contends_by network (pick_at picks number)) start,
              ))
        ]

    -- and takes no later release
    no_later : (sends others : List Sent) (number : ℕ) → Agree sends others number → Sends sends number
        → Sends others number
        → (carried_by (course releases until sends) number).frame
        ≡ (carried_by (course releases until others) number).frame
        → (send_at (course releases until sends) number).release
        ≤ (send_at (course releases until others) number).release
    no_later sends others number agree one other frame =
        one.0.takes_first.first (send_at (course releases until others) number).release
        (unsent_agrees others sends number _ (back sends others number agree) other.0.takes_first.unsent)
        (sym frame)

    -- so it is the same
    next_agrees : (sends others : List Sent) (number : ℕ) → Agree sends others number → Sends sends number
        → Sends others number
        → send_at (course releases until sends) number ≡ send_at (course releases until others) number
    next_agrees sends others number agree one other =
        let agree' : Agree others sends number = back sends others number agree in
        let s : Sent = send_at (course releases until sends) number in
        let t : Sent = send_at (course releases until others) number in
        let pick : Pick = pick_at picks number in
        let start : s.start ≡ t.start =
        omega (
          arith,
          starts_no_later sends others number agree one other,
          starts_no_later others sends number agree' other one,
        ) in
        let frame : (carried_by (course releases until sends) number).frame
        ≡ (carried_by (course releases until others) number).frame =
        omega (
          arith,
          no_lower sends others number agree one other start,
          no_lower others sends number agree' other one (sym start),
        ) in
        let release : s.release ≡ t.release =
        omega (
          arith,
          no_later sends others number agree one other frame,
          no_later others sends number agree' other one (sym frame),
        ) in
        let esi : s.esi ≡ t.esi = one.1.picked.esi ∙ sym other.1.picked.esi in
        let payload : s.payload ≡ t.payload =
        one.1.picked.payload ∙ ap (λ f. replicate (bus_frame_at frames f).size pick.fill) frame
        ∙ sym other.1.picked.payload in
        let lasts : ticks_of network
        (bits_of (bus_frame_at frames (carried_by (course releases until sends) number).frame).id s.esi
        s.payload)
        ≡ ticks_of network (bits_of
        (bus_frame_at frames (carried_by (course releases until others) number).frame).id t.esi t.payload) =
        ap (λ f. ticks_of network (bits_of (bus_frame_at frames f).id s.esi s.payload)) frame
        ∙ ap (λ e. ticks_of network
        (bits_of (bus_frame_at frames (carried_by (course releases until others) number).frame).id e
        s.payload)) esi
        ∙ ap (λ p. ticks_of network
        (bits_of (bus_frame_at frames (carried_by (course releases until others) number).frame).id t.esi
        p)) payload in
        let ticks : s.ticks ≡ t.ticks = omega (arith, one.1.picked.ticks, other.1.picked.ticks, lasts) in
        same_sends s t release start esi payload ticks

    module _ (sends others : List Sent)
        (one : RunStands network frames (course releases until sends))
        (other : RunStands network frames (course releases until others))
        (follows : (number : ℕ) → number < length sends
        → Follows network frames (pick_at picks number) (course releases until sends) number)
        (follows' : (number : ℕ) → number < length others
        → Follows network frames (pick_at picks number) (course releases until others) number) where
      all_agree : (count : ℕ) → count ≤ length sends → count ≤ length others → Agree sends others count
      all_agree zero le le' = λ i below. absurd (omega (arith, below))
      all_agree (suc count) le le' =
          let before : Agree sends others count = all_agree count (omega (arith, le)) (omega (arith, le')) in
          let here : send_at (course releases until sends) count
          ≡ send_at (course releases until others) count =
          next_agrees sends others count before (one.sends count le, follows count le)
          (other.sends count le', follows' count le') in
          λ i below. elim (cases_lt i count) [
            | inl below' ↦ before i below'
            | inr last ↦
                subst (λ n. send_at (course releases until sends) n
                ≡ send_at (course releases until others) n)
                (let e : count ≡ i = omega (arith, below) in e) here
          ]

      -- one run goes on no longer than the other
      no_longer : length sends ≤ length others → length others ≤ length sends
      no_longer le =
          elim (cases_lt (length sends) (length others)) [
            | inr done ↦ done
            | inl more ↦
                let n : ℕ = length sends in
                let agree : Agree sends others n = all_agree n (omega arith) le in
                let starts : StartsInTime (course releases until others) n = (other.sends n more).starts in
                let unsent : IsUnsent (course releases until sends) n starts.starts.release =
                unsent_agrees others sends n starts.starts.release (back sends others n agree)
                starts.starts.unsent in
                absurd (omega (
                  arith,
                  starts.starts.then,
                  starts.before_end,
                  one.no_further starts.starts.release unsent,
                  end_agrees sends others n agree,
                ))
          ]

-- two runs that stand with the same releases and end, and follow the same picks, are the same
pub one_run : (network : Network) (frames : List BusFrame) (picks : List Pick) (releases : List Release)
    (until : ℕ) (sends others : List Sent)
    → RunStands network frames (course releases until sends)
    → RunStands network frames (course releases until others)
    → ((number : ℕ) → number < length sends
    → Follows network frames (pick_at picks number) (course releases until sends) number)
    → ((number : ℕ) → number < length others
    → Follows network frames (pick_at picks number) (course releases until others) number)
    → sends ≡ others
one_run network frames picks releases until sends others one other follows follows' =
    let long : length sends ≡ length others = elim (cases_lt (length sends) (length others)) [
      | inl less ↦ omega (
        arith,
        no_longer releases until network frames picks sends others one other follows follows' (omega arith),
      )
      | inr le ↦ omega (
        arith,
        no_longer releases until network frames picks others sends other one follows' follows le,
      )
    ] in
    let agree : (i : ℕ) → i < length sends
    → send_at (course releases until sends) i ≡ send_at (course releases until others) i =
    all_agree releases until network frames picks sends others one other follows follows' (length sends)
    (omega arith) (omega arith) in
    same_lists sends others long (λ i none inside.
    get_or_default sends i none none_sent inside ∙ agree i inside
    ∙ get_or_default others i none_sent none (omega arith))
