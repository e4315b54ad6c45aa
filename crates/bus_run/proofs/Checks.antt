-- What the tests of frames and releases that are written out say.
use Rattle.std.proofs.Common.{◌≡◌, ℕ, ◌<◌, ◌≤◌, zero, suc, true, ◌&&◌, IsTrue, List, [], ◌∷◌, length, nat_le, nat_lt, arith}
use Rattle.std.specs.List.{list_all}
use Rattle.std.proofs.lemmas.Bool.{and_parts, leb-true, ltb-true}
use Rattle.std.proofs.lemmas.List.Elements.{All-get_or, All-map, All-weaker}
use Rattle.std.proofs.lemmas.List.Sums.{AllPass-from_list_all}
use Rattle.fd_length.specs.Size.{IsSize, is_size}
use Rattle.busy_period.specs.Timed.{IsInRange}
use Rattle.busy_period.specs.Checked.{is_in_range}
use Rattle.busy_period.proofs.Checks.{in_range_from_test}
use Rattle.bus_run.specs.declared.run.BusFrame.{BusFrame}
use Rattle.bus_run.specs.declared.run.Release.{Release}
use Rattle.bus_run.specs.Frames.{none_bus_frame, bus_frame_at, AreBusFrames}
use Rattle.bus_run.specs.Run.{Course, none_release, release_at}
use Rattle.bus_run.specs.Rules.{ReleasesStand}
use Rattle.bus_run.specs.Limits.{ReleaseLimited, IsLimited}
use Rattle.bus_run.specs.Checked.{is_ascending, is_bus_frame, are_bus_frames, is_limited, are_limited}

-- identifiers that pass the test ascend
ascending_from_test : (frames : List BusFrame) → is_ascending frames ≡ true → (earlier later : ℕ)
    → earlier < later
    → later < length frames → (bus_frame_at frames earlier).id < (bus_frame_at frames later).id
ascending_from_test [] it earlier later less inside = absurd (omega (arith, inside))
ascending_from_test (frame ∷ frames) it earlier zero less inside = absurd (omega (arith, less))
ascending_from_test (frame ∷ frames) it zero (suc later) less inside =
    let parts = and_parts (list_all (λ (other : BusFrame). nat_lt frame.id other.id) frames)
    (is_ascending frames) it in
    ltb-true frame.id (bus_frame_at frames later).id
    (All-get_or (λ (other : BusFrame). nat_lt frame.id other.id ≡ true) frames later none_bus_frame
    (omega (arith, inside))
    (AllPass-from_list_all (λ (other : BusFrame). nat_lt frame.id other.id) frames parts.0))
ascending_from_test (frame ∷ frames) it (suc earlier) (suc later) less inside =
    let parts = and_parts (list_all (λ (other : BusFrame). nat_lt frame.id other.id) frames)
    (is_ascending frames) it in
    ascending_from_test frames parts.1 earlier later (omega (arith, less)) (omega (arith, inside))

-- a frame that passes the test may be one of a bus
record IsBusFrame (frame : BusFrame) : Type 0 where
  id_high : frame.id < 2048
  listed : IsSize frame.size
  in_range : IsInRange frame.timed

-- what the test of one frame says
frame_from_test : (frame : BusFrame) → is_bus_frame frame ≡ true → IsBusFrame frame
frame_from_test frame it =
    let parts = and_parts (nat_lt frame.id 2048 && is_size frame.size) (is_in_range frame.timed) it in
    let first = and_parts (nat_lt frame.id 2048) (is_size frame.size) parts.0 in
    record {
      id_high = ltb-true frame.id 2048 first.0;
      listed = first.1;
      in_range = in_range_from_test frame.timed parts.1;
    }

-- frames that pass the test are those of a bus
pub frames_from_test : (frames : List BusFrame) → IsTrue (are_bus_frames frames) → AreBusFrames frames
frames_from_test frames it =
    let parts = and_parts (nat_le (length frames) 128 && is_ascending frames) (list_all is_bus_frame frames)
    it in
    let first = and_parts (nat_le (length frames) 128) (is_ascending frames) parts.0 in
    let each = All-weaker (λ (frame : BusFrame). is_bus_frame frame ≡ true) IsBusFrame frame_from_test frames
    (AllPass-from_list_all is_bus_frame frames parts.1) in
    record {
      few = leb-true (length frames) 128 first.0;
      ascending = ascending_from_test frames first.1;
      id_high = All-weaker IsBusFrame (λ frame. frame.id < 2048) (λ frame it. it.id_high) frames each;
      listed = All-weaker IsBusFrame (λ frame. IsSize frame.size) (λ frame it. it.listed) frames each;
      in_range = All-map IsInRange (λ (frame : BusFrame). frame.timed) frames
          (All-weaker IsBusFrame (λ frame. IsInRange frame.timed) (λ frame it. it.in_range) frames each);
    }

-- a release that passes the test is within the limits
release_from_test : (release : Release) → is_limited release ≡ true → ReleaseLimited release
release_from_test release it =
    let parts = and_parts (nat_le release.arrival 1000000000000000000)
    (nat_le release.queued 1000000000000000000) it in
    record {
      arrival = leb-true release.arrival 1000000000000000000 parts.0;
      queued = leb-true release.queued 1000000000000000000 parts.1;
    }

-- releases that pass the test are within the limits before anything is sent
pub limited_from_test : (releases : List Release) (until : ℕ) → IsTrue (are_limited releases)
    → until ≤ 1000000000000000000
    → IsLimited (record { releases = releases; sends = []; until = until })
limited_from_test releases until it inside =
    let parts = and_parts (nat_le (length releases) 4294967295) (list_all is_limited releases) it in
    let each = All-weaker (λ (release : Release). is_limited release ≡ true) ReleaseLimited release_from_test
    releases
    (AllPass-from_list_all is_limited releases parts.1) in
    record {
      few = leb-true (length releases) 4294967295 parts.0;
      releases = λ number there. All-get_or ReleaseLimited releases number none_release there each;
      sends = λ number there. absurd (omega (arith, there));
      until = inside;
    }

-- the frame of each release that stands is there
pub frames_there : (frames : List BusFrame) (run : Course) → ReleasesStand frames run → (release : ℕ)
    → release < length run.releases → (release_at run release).frame < length frames
frames_there frames run it release inside = (it release inside).frame_there

-- these laws, for the tests
pub ruleset written_out = (frames_from_test, limited_from_test, frames_there)
