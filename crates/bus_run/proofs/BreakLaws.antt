-- A run that breaks a rule does not stand, and one over frames that are all shown has no late release.
use Rattle.std.proofs.Common.{ℕ, ◌<◌, List, length, refl}
use Rattle.pack_model.specs.declared.network.Network.{Network}
use Rattle.pack_model.specs.Network.{NetworkStands}
use Rattle.bus_run.specs.declared.run.BusFrame.{BusFrame}
use Rattle.bus_run.specs.Frames.{AreBusFrames, HaveWorstTicks}
use Rattle.bus_run.specs.Run.{Course, release_at}
use Rattle.bus_run.specs.Rules.{ReleaseStands, SendStands, RunStands, ReleaseBreaks, SendBreaks, RunBreaks, frame_missing, queued_out, too_soon, out_of_order, takes_another, other_size, other_ticks, other_start, queued_late, not_highest, at_release, at_send, at_end}
use Rattle.bus_run.specs.Late.{IsLate, IsByNumber, IsShownAt}
use Rattle.bus_run.proofs.TimesKept.{stands_never_late}

-- a release that breaks a rule first does not stand
release_breaks : (frames : List BusFrame) (run : Course) (release rule : ℕ)
    → ReleaseBreaks frames run release rule → ReleaseStands frames run release → ⊥
release_breaks frames run release rule (frame_missing denied) stands = denied stands.frame_there
release_breaks frames run release rule (queued_out _ denied) stands = denied stands.queued
release_breaks frames run release rule (too_soon _ _ denied) stands = denied stands.period
release_breaks frames run release rule (out_of_order _ _ _ denied) stands = denied stands.in_order

-- a send that breaks a rule first does not stand
send_breaks : (network : Network) (frames : List BusFrame) (run : Course) (number rule : ℕ)
    → SendBreaks network frames run number rule
    → SendStands network frames run number → ⊥
send_breaks network frames run number rule (takes_another denied) stands = denied stands.takes_first
send_breaks network frames run number rule (other_size _ denied) stands = denied stands.fits
send_breaks network frames run number rule (other_ticks _ _ denied) stands = denied stands.lasts
send_breaks network frames run number rule (other_start _ _ _ denied) stands = denied stands.starts
send_breaks network frames run number rule (queued_late _ _ _ _ denied) stands = denied stands.joined
send_breaks network frames run number rule (not_highest _ _ _ _ _ denied) stands = denied stands.highest

-- a run that breaks a rule first does not stand
pub run_breaks : (network : Network) (frames : List BusFrame) (run : Course) (rule place : ℕ)
    → RunBreaks network frames run rule place
    → RunStands network frames run → ⊥
run_breaks network frames run rule place (at_release first) stands =
    release_breaks frames run place rule first.breaks (stands.releases place first.inside)
run_breaks network frames run rule place (at_send _ first) stands =
    send_breaks network frames run place rule first.breaks (stands.sends place first.inside)
run_breaks network frames run rule place (at_end _ _ denied) stands = denied stands.no_further

-- where each frame is shown, no release is late
pub none_late : (network : Network) (frames : List BusFrame) (run : Course) (order : List ℕ)
    → NetworkStands network → AreBusFrames frames → HaveWorstTicks network frames
    → ((place : ℕ) → place < length frames
    → IsByNumber (length frames) order place × IsShownAt network frames order place)
    → RunStands network frames run → (release : ℕ) → IsLate frames run release → ⊥
none_late network frames run order network_stands are have each stands release late =
    let place : ℕ = (release_at run release).frame in
    let inside : place < length frames = (stands.releases release late.there).frame_there in
    let it : IsByNumber (length frames) order place × IsShownAt network frames order place =
    each place inside in
    stands_never_late network frames run order place it.1.busy it.1.starts release network_stands are have
    it.0 stands it.1.shown refl late
