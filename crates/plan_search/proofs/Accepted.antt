-- The frames of one item each in an order in which each passes, with lines that show it, are accepted.
use Rattle.std.proofs.Common.{◌≡◌, ℕ, ◌<◌, List, length, get_or, All, refl, sym, ap, ◌∙◌, subst, arith}
use Rattle.std.proofs.lemmas.List.Elements.{All-nil}
use Rattle.pack_model.specs.Problem.{Parts, IsProblem}
use Rattle.busy_period.specs.declared.timed.Timed.{Timed}
use Rattle.response_test.specs.Frame.{IsShown}
use Rattle.response_test.specs.Order.{OrderPasses}
use Rattle.priority_assign.specs.Lowest.{IsLowestFirst}
use Rattle.class_frame.specs.Classes.{frames_of_classes, load_of}
use Rattle.matrix_rows.specs.declared.matrix.MatrixRow.{MatrixRow}
use Rattle.matrix_text.specs.Frames.{grouping_of, order_of}
use Rattle.matrix_text.specs.LaidOut.{rows_of}
use Rattle.matrix_text.specs.Placed.{Placed}
use Rattle.matrix_layout.proofs.OneEach.{one_each_legal}
use Rattle.cert_text.specs.declared.parts.FrameLine.{FrameLine}
use Rattle.cert_text.specs.Parts.{CertParts}
use Rattle.cert_text.specs.Written.{CertFits, HasRoom, LemmaFits}
use Rattle.bandwidth_bound.specs.declared.verdict.Verdict.TheVariants as verdict
use Rattle.bandwidth_bound.specs.Rule.{Accepts}
use Rattle.bandwidth_bound.specs.Solvable.{Solvable}
use Rattle.plan_search.specs.Alone.{IsInTime, frames_alone, labels_alone, load_alone, timed_parts}
use Rattle.plan_search.specs.Lines.{AreLeastLines}
use Rattle.plan_search.proofs.LeastLines.{least_shows}

module _ (problem : Parts) (rows : List MatrixRow) (order : List ℕ) (lines : List FrameLine) where
  -- each of the lines shows its frame
  abbrev ShowEach : List Timed → List ℕ → Type 0
  ShowEach frames order = (place : ℕ) (d : FrameLine) → place < length lines
      → IsShown frames order place problem.network.nominal_ticks (get_or lines place d).busy
      (get_or lines place d).queue

  -- least lines do where each frame passes
  show_each : AreLeastLines (frames_alone problem) order problem.network.nominal_ticks lines → OrderPasses
      (frames_alone problem) problem.network.nominal_ticks order → ShowEach (frames_alone problem) order
  show_each least passes place d inside =
      least_shows (frames_alone problem) order problem.network.nominal_ticks place (get_or lines place d)
      (least.each place d inside)
      (passes.passes place (omega (arith, inside, least.count)))

  -- the certificate with these lines is accepted
  pub timed_accepted : Placed problem rows → grouping_of problem rows ≡ labels_alone problem
      → order_of problem rows ≡ order
      → AreLeastLines (frames_alone problem) order problem.network.nominal_ticks lines
      → OrderPasses (frames_alone problem) problem.network.nominal_ticks order
      → (cert : CertParts) → cert ≡ timed_parts lines
      → Accepts (record { problem = problem; matrix = rows; cert = cert })
      (verdict.Timed (load_alone problem))
  timed_accepted placed grouping named least passes cert is =
      subst (λ (c : CertParts). Accepts (record { problem = problem; matrix = rows; cert = c })
      (verdict.Timed (load_alone problem))) (sym is) (record {
        rule = record {
          matrix = placed;
          timing = record {
            count = least.count ∙ sym (ap length named);
            each =
                subst (λ labels. ShowEach (frames_of_classes problem problem.items labels)
                (order_of problem rows)) (sym grouping)
                (subst (ShowEach (frames_alone problem)) (sym named) (show_each least passes));
          };
          tree = tt;
        };
        of_kind = (refl, ap (load_of problem problem.items) (sym grouping));
      })

  -- it is what is planned
  pub timed_planned : IsProblem problem → (labels : List ℕ) → labels ≡ labels_alone problem
      → rows ≡ rows_of problem labels order
      → IsLowestFirst (frames_alone problem) problem.network.nominal_ticks 0 order
      → OrderPasses (frames_alone problem) problem.network.nominal_ticks order
      → AreLeastLines (frames_alone problem) order problem.network.nominal_ticks lines
      → (cert : CertParts) → cert ≡ timed_parts lines
      → Solvable problem (labels_alone problem) × IsInTime problem rows cert
  timed_planned stands labels same matrix lowest passes least cert is = (
    record { legal = one_each_legal problem stands; order = order; passes = passes },
    record {
      order = order;
      lowest_first = lowest;
      matrix = matrix ∙ ap (λ ls. rows_of problem ls order) same;
      lines = subst (AreLeastLines (frames_alone problem) order problem.network.nominal_ticks)
          (sym (ap (λ (c : CertParts). c.frames) is)) least;
      certificate = is ∙ ap timed_parts (sym (ap (λ (c : CertParts). c.frames) is));
    },
  )

  -- and has a text
  pub timed_fits : All HasRoom lines → (cert : CertParts) → cert ≡ timed_parts lines → CertFits cert
  timed_fits room cert is = subst CertFits (sym is) (record {
    frames = room;
    lemmas =
        All-nil LemmaFits;
    main = tt;
  })
