-- A run that stands keeps to the times of its frames.
use Rattle.std.proofs.Common.{◌≡◌, ℕ, ◌<◌, ◌≤◌, zero, suc, List, [], ◌∷◌, length, refl, sym, ap, ◌∙◌, arith}
use Rattle.std.proofs.lemmas.List.{length-map}
use Rattle.std.proofs.lemmas.List.Elements.{All-get_or, All-map, All-weaker}
use Rattle.pack_model.specs.declared.network.Network.{Network}
use Rattle.pack_model.specs.Network.{NetworkStands}
use Rattle.frame_ticks.specs.Bits.{bits_of}
use Rattle.frame_ticks.proofs.LeastLaws.{ticks_of-at_least}
use Rattle.frame_ticks.proofs.BoundLaws.{ticks_of-at_most}
use Rattle.frame_ticks.specs.Ticks.{ticks_of}
use Rattle.frame_ticks.specs.Worst.{worst_ticks_of}
use Rattle.busy_period.specs.declared.timed.Timed.{Timed}
use Rattle.busy_period.specs.Timed.{frame_at}
use Rattle.response_test.specs.Queueing.{IsBit}
use Rattle.response_test.specs.Frame.{IsShown}
use Rattle.bus_run.specs.declared.run.BusFrame.{BusFrame}
use Rattle.bus_run.specs.Frames.{none_bus_frame, bus_frame_at, times_of, AreBusFrames, HaveWorstTicks}
use Rattle.bus_run.specs.Run.{Course, release_at, send_at, carried_by}
use Rattle.bus_run.specs.Rules.{LastsAsSent, RunStands}
use Rattle.bus_run.specs.Late.{IsLate, IsByNumber}
use Rattle.bus_run.proofs.KeepsTime.{KeepsTime}
use Rattle.bus_run.proofs.NeverLate.{never_late}

-- the times at a number are those of the frame there
pub time_at : (frames : List BusFrame) (number : ℕ)
    → frame_at (times_of frames) number ≡ (bus_frame_at frames number).timed
time_at [] number = refl
time_at (frame ∷ frames) zero = refl
time_at (frame ∷ frames) (suc number) = time_at frames number

-- a bit is no longer than a frame
pub bit_of_frames : (network : Network) (frames : List BusFrame) → NetworkStands network
    → HaveWorstTicks network frames
    → IsBit (times_of frames) network.nominal_ticks
bit_of_frames network frames stands have =
    let P : Timed → Type 0 = λ timed. network.nominal_ticks ≤ timed.ticks in
    record {
      some = stands.nominal_low;
      within = All-map P (λ (frame : BusFrame). frame.timed) frames
          (All-weaker (λ (frame : BusFrame). frame.timed.ticks ≡ worst_ticks_of network frame.size)
          (λ (frame : BusFrame). P frame.timed)
          (λ frame ticks. omega arith) frames have);
    }

-- the times of a run that stands
pub keeps_time : (network : Network) (frames : List BusFrame) (run : Course) → NetworkStands network
    → HaveWorstTicks network frames
    → RunStands network frames run → KeepsTime (times_of frames) network.nominal_ticks run
keeps_time network frames run network_stands have stands =
    let at : (number : ℕ) → frame_at (times_of frames) number ≡ (bus_frame_at frames number).timed =
    time_at frames in
    record {
      frame_there = λ r there. omega (
        arith,
        (stands.releases r there).frame_there,
        length-map frames (λ (frame : BusFrame). frame.timed),
      );
      queued = λ r there. record {
        after = (stands.releases r there).queued.after;
        within = omega (
          arith,
          (stands.releases r there).queued.within,
          ap (λ (t : Timed). t.jitter) (at (release_at run r).frame),
        );
      };
      period = λ earlier later lt there same.
          omega (
            arith,
            (stands.releases later there).period earlier lt same,
            ap (λ (t : Timed). t.period) (at (release_at run later).frame),
          );
      in_order = λ earlier later lt there same. (stands.releases later there).in_order earlier lt same;
      takes_first = λ j inside. (stands.sends j inside).takes_first;
      lasts = λ j inside.
          let number : ℕ = (carried_by run j).frame in
          let frame : BusFrame = bus_frame_at frames number in
          let it : LastsAsSent network frame (send_at run j) = (stands.sends j inside).lasts in
          let named : number < length frames =
          (stands.releases (send_at run j).release
          (stands.sends j inside).takes_first.unsent.there).frame_there in
          let ticks : frame.timed.ticks ≡ worst_ticks_of network frame.size =
          All-get_or (λ (frame : BusFrame). frame.timed.ticks ≡ worst_ticks_of network frame.size) frames
          number none_bus_frame named have in
          let worst : ticks_of network (bits_of frame.id (send_at run j).esi (send_at run j).payload)
          ≤ worst_ticks_of network (length (send_at run j).payload) =
          ticks_of-at_most network frame.id (send_at run j).esi (send_at run j).payload in
          let size : worst_ticks_of network (length (send_at run j).payload)
          ≡ worst_ticks_of network frame.size =
          ap (worst_ticks_of network) ((stands.sends j inside).fits) in
          record {
            least = omega (
              arith,
              it.least,
              ticks_of-at_least network frame.id (send_at run j).esi (send_at run j).payload,
              network_stands.nominal_low,
            );
            most = omega (arith, it.most, ap (λ (t : Timed). t.ticks) (at number));
          };
      starts = λ j inside. (stands.sends j inside).starts;
      joined = λ j inside. (stands.sends j inside).joined;
      highest = λ j release inside. (stands.sends j inside).highest release;
      no_further = stands.no_further;
    }

-- no release of a frame that is shown is late
pub stands_never_late : (network : Network) (frames : List BusFrame) (run : Course) (order : List ℕ)
    (place busy : ℕ) (starts : List ℕ) (release : ℕ)
    → NetworkStands network → AreBusFrames frames → HaveWorstTicks network frames
    → IsByNumber (length frames) order place
    → RunStands network frames run
    → IsShown (times_of frames) order place network.nominal_ticks busy starts
    → (release_at run release).frame ≡ place → IsLate frames run release → ⊥
stands_never_late network frames run order place busy starts release network_stands are have by_number stands
    shown is late =
    let count : length (times_of frames) ≡ length frames =
    length-map frames (λ (frame : BusFrame). frame.timed) in
    let by_number' : IsByNumber (length (times_of frames)) order place =
    record { all = by_number.all ∙ sym count; each = by_number.each; inside = by_number.inside } in
    let deadline : (frame_at (times_of frames) (release_at run release).frame).deadline
    ≡ (bus_frame_at frames (release_at run release).frame).timed.deadline =
    ap (λ (t : Timed). t.deadline) (time_at frames (release_at run release).frame) in
    never_late (times_of frames) network.nominal_ticks run
    (keeps_time network frames run network_stands have stands) order place are.in_range
    (bit_of_frames network frames network_stands have) by_number' busy starts release shown is (record {
      there = late.there;
      judged = omega (arith, late.judged);
      missed = λ j it. late.missed j
          (record { there = it.there; carries = it.carries; ended = omega (arith, it.ended) });
    })
