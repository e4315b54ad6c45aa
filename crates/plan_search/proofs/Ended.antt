-- What a plan ends with is accepted, trimmed, and has a text.
use Rattle.std.proofs.Common.{◌≡◌, ℕ, ◌*◌, ◌≤◌, true, false, List, [], ◌∷◌, length, get_or, map, All, Option, None, Some, IfSome, refl, sym, ap, ◌∙◌, subst, arith}
use Rattle.std.proofs.lemmas.List.Elements.{All-nil}
use Rattle.pack_model.specs.Problem.{Parts, IsProblem, IsSorted}
use Rattle.pack_model.proofs.Laws.{tests}
use Rattle.class_frame.specs.Classes.{load_of}
use Rattle.class_frame.specs.Frame.{least}
use Rattle.matrix_rows.specs.declared.matrix.MatrixRow.{MatrixRow}
use Rattle.matrix_text.specs.Frames.{grouping_of}
use Rattle.matrix_text.specs.Placed.{Placed}
use Rattle.cert_text.specs.declared.parts.FrameLine.{FrameLine}
use Rattle.cert_text.specs.declared.parts.Kind.TheVariants.{KindBetween}
use Rattle.cert_text.specs.Parts.{CertParts, LemmaOf}
use Rattle.cert_text.specs.Trees.{Plain}
use Rattle.cert_text.specs.Written.{CertFits, HasRoom, LemmaFits, MainFits}
use Rattle.bandwidth_bound.specs.Goals.{FailsIn, eighths, main_goal}
use Rattle.bandwidth_bound.specs.Lemmas.{LemmaStands, LemmasStand, values_of}
use Rattle.bandwidth_bound.specs.Prices.{lower8_of}
use Rattle.bandwidth_bound.specs.declared.verdict.Verdict.TheVariants as verdict
use Rattle.bandwidth_bound.specs.Rule.{Accepts, MatrixOfKind, TimingOfKind, best_of, lower_of}
use Rattle.bandwidth_bound.specs.Timing.{TimingStands}
use Rattle.bandwidth_bound.specs.Trees.{TreeStands, open_places}
use Rattle.tree_search.specs.declared.finding.Found.{Found}
use Rattle.tree_search.specs.Open.{has_open, least_of}
use Rattle.tree_search.specs.Trim.{reaches}
use Rattle.tree_search.proofs.Counts.{is_trimmed}
use Rattle.search_judge.proofs.Places.{closed_places, opened_places}
use Rattle.tree_search.proofs.Standing.{stands-along, stands-closed, stands-trim}
use Rattle.search_judge.specs.Findings.{FoundStands}
use Rattle.plan_search.specs.declared.planned.Planned.{Planned}
use Rattle.plan_search.specs.declared.planned.Planned.TheVariants as planned
use Rattle.plan_search.specs.Ending.{lower_with, verdict_with}
use Rattle.plan_search.specs.Plan.{Ends, IsShownBy, IsTrimmedPlan, best_cert, cert_of_plan, judged_plan, load_found, none_cert, open_cert, verdict_of_plan}
use Rattle.plan_search.specs.Searches.{IsTrimmedIn, trimmed, LemmaIsTrimmed}
use Rattle.plan_search.proofs.FewSenders.{senders_few}
use Rattle.plan_search.proofs.Founds.{best, grouping, lines_have_room, placed, timing}
use Rattle.plan_search.proofs.TreeFits.{standing_fits}

-- ---- trees

module _ (problem : Parts) (values : List ℕ) where
  -- a tree without open leaves stands where none may be open
  closed_stands : (best : Option ℕ) (t : Plain) → has_open t ≡ false
      → TreeStands (main_goal problem values best true) [] t
      → TreeStands (main_goal problem values best false) [] t
  closed_stands best t e h =
      stands-closed (main_goal problem values best true) [] t
      (closed_places (main_goal problem values best true) [] t h e) h

  -- and so does the trimmed one
  trimmed_stands : (load : ℕ) (t : Plain) → has_open t ≡ false
      → TreeStands (main_goal problem values (Some load) true) [] t
      → TreeStands (main_goal problem values (Some load) false) [] (trimmed problem None values (8 * load) t)
  trimmed_stands load t e h =
      stands-trim (main_goal problem values (Some load) false) (8 * load) refl [] t
      (closed_stands (Some load) t e h)

  -- without a best the values of lemmas do not count
  none_stands : (others : List ℕ) (t : Plain) → TreeStands (main_goal problem values None false) [] t
      → TreeStands (main_goal problem others None false) [] t
  none_stands others t h =
      stands-along (main_goal problem values None false) (lower8_of problem others problem.items) None false
      (FailsIn problem None) (λ p r. absurd r) (λ e. e) (λ p named f. f) [] t h

-- ---- the rule

-- a matrix that is placed will do for the kind `open`
open_matrix : (problem : Parts) (rows : List MatrixRow) → Placed problem rows
    → MatrixOfKind KindBetween problem rows
open_matrix problem [] is = tt
open_matrix problem (row ∷ rows) is = is

open_timing : (problem : Parts) (rows : List MatrixRow) (lines : List FrameLine) (load : ℕ)
    → best_of problem rows ≡ Some load → TimingStands problem rows lines
    → TimingOfKind KindBetween problem rows lines
open_timing problem [] lines load e stands = cc
open_timing problem (row ∷ rows) lines load e stands = stands

-- ---- the verdict

-- the bounds at the open leaves of a main tree
abbrev bounds : Parts → List (LemmaOf Plain) → Plain → List ℕ
bounds problem lemmas tree =
    map (lower8_of problem (values_of problem lemmas) problem.items) (open_places problem.items [] tree)

-- the least of the bounds is told
between : (best : Option ℕ) (xs : List ℕ)
    → verdict_with best true (least_of xs) ≡ verdict.Between best (lower_with best (least xs))
between best [] = refl
between best (x ∷ xs) = refl

-- ---- what a plan ends with

module _ (problem : Parts) (stands : IsProblem problem) (sorted : IsSorted problem.signals problem.items)
    (lemmas : List (LemmaOf Plain)) (lemmas_stand : LemmasStand problem lemmas) (tree : Plain) where
  -- the main tree stands with a best, where leaves may be open
  abbrev StandsWith : Option ℕ → Type 0
  StandsWith best = TreeStands (main_goal problem (values_of problem lemmas) best true) [] tree

  -- the lemmas have a text
  lemmas_fit : All LemmaFits lemmas
  lemmas_fit k d inside =
      let lemma : LemmaOf Plain = get_or lemmas k d in
      let it : LemmaStands problem lemma = lemmas_stand.each k d inside in (
        omega (arith, it.0, senders_few problem stands sorted, (tests problem stands).few_items),
        standing_fits problem stands (Some lemma.sender) [] (Some lemma.value) false lemma.tree it.1,
      )

  -- and so does the tree
  tree_fits : (best : Option ℕ) → StandsWith best → MainFits (Some tree)
  tree_fits best h = standing_fits problem stands None (values_of problem lemmas) (eighths best) true tree h

  module _ (found : Found) (is : FoundStands problem found) (rows : List MatrixRow) (lines : List FrameLine)
      (shown : IsShownBy problem found rows lines) (h : StandsWith (Some found.load)) where
    the_best : best_of problem rows ≡ Some found.load
    the_best = best problem stands sorted found.labels is.legal found.order is.lowest_first rows shown.matrix
        ∙ ap Some (sym is.load_is)

    the_load : load_of problem problem.items (grouping_of problem rows) ≡ found.load
    the_load =
        ap (load_of problem problem.items)
        (grouping problem stands sorted found.labels is.legal found.order is.lowest_first rows shown.matrix)
        ∙ sym is.load_is

    the_matrix : Placed problem rows
    the_matrix =
        placed problem stands sorted found.labels is.legal found.order is.lowest_first rows shown.matrix

    the_timing : TimingStands problem rows lines
    the_timing = timing problem stands sorted found.labels is.legal found.order is.lowest_first rows
        shown.matrix
        lines shown.lines_are

    the_lines : All HasRoom lines
    the_lines =
        lines_have_room problem stands sorted found.labels is.legal found.order is.lowest_first lines
        shown.lines_are

    best_accepted : has_open tree ≡ false → (cert : CertParts)
        → cert ≡ best_cert problem lines lemmas found.load tree
        → Accepts (judged_plan problem (planned.Best rows cert))
        (verdict_of_plan problem (planned.Best rows cert))
    best_accepted closed cert e =
        subst (λ c. Accepts (judged_plan problem (planned.Best rows c))
        (verdict_of_plan problem (planned.Best rows c)))
        (sym e) (record {
          rule = record {
            matrix = the_matrix;
            timing = the_timing;
            tree = record {
              lemmas = lemmas_stand;
              main = subst (λ load. TreeStands (main_goal problem (values_of problem lemmas) load false) []
                  (trimmed problem None (values_of problem lemmas) (8 * found.load) tree)) (sym the_best)
                  (trimmed_stands problem (values_of problem lemmas) found.load tree closed h);
            };
          };
          of_kind = (refl, refl);
        })

    best_trimmed : All (LemmaIsTrimmed problem) lemmas → (cert : CertParts)
        → cert ≡ best_cert problem lines lemmas found.load tree
        → IsTrimmedPlan problem (planned.Best rows cert)
    best_trimmed all cert e =
        subst (λ c. IsTrimmedPlan problem (planned.Best rows c)) (sym e) (
          all,
          subst (λ load. IsTrimmedIn problem None (values_of problem lemmas) (8 * load)
              (trimmed problem None (values_of problem lemmas) (8 * found.load) tree)) (sym the_load)
              (is_trimmed problem.items
              (reaches (lower8_of problem (values_of problem lemmas) problem.items) (8 * found.load)) []
              tree),
        )

    spent_accepted : has_open tree ≡ true → (cert : CertParts) → cert ≡ open_cert lines lemmas tree
        → Accepts (judged_plan problem (planned.Spent (Some rows) cert))
        (verdict_of_plan problem (planned.Spent (Some rows) cert))
    spent_accepted opened cert e =
        subst (λ c. Accepts (judged_plan problem (planned.Spent (Some rows) c))
        (verdict_of_plan problem (planned.Spent (Some rows) c))) (sym e) (record {
          rule = record {
            matrix = open_matrix problem rows the_matrix;
            timing = open_timing problem rows lines found.load the_best the_timing;
            tree = (
              record {
                lemmas = lemmas_stand;
                main = subst (λ load. TreeStands (main_goal problem (values_of problem lemmas) load true) []
                    tree)
                    (sym the_best) h;
              },
              opened_places (main_goal problem (values_of problem lemmas) (Some found.load) true) [] tree h
                  opened,
            );
          };
          of_kind = (refl, refl, refl);
        })

    best_fits : has_open tree ≡ false → (cert : CertParts) → cert
        ≡ best_cert problem lines lemmas found.load tree
        → CertFits cert
    best_fits closed cert e =
        subst CertFits (sym e) (record {
          frames = the_lines;
          lemmas = lemmas_fit;
          main = standing_fits problem stands None (values_of problem lemmas) (Some (8 * found.load)) false
              (trimmed problem None (values_of problem lemmas) (8 * found.load) tree)
              (trimmed_stands problem (values_of problem lemmas) found.load tree closed h);
        })

    spent_fits : (cert : CertParts) → cert ≡ open_cert lines lemmas tree → CertFits cert
    spent_fits cert e =
        subst CertFits (sym e) (record {
          frames = the_lines;
          lemmas = lemmas_fit;
          main = tree_fits (Some found.load) h;
        })

  none_accepted : StandsWith None → has_open tree ≡ false → (cert : CertParts) → cert ≡ none_cert tree
      → Accepts (judged_plan problem (planned.NoSolution cert))
      (verdict_of_plan problem (planned.NoSolution cert))
  none_accepted h closed cert e =
      subst (λ c. Accepts (judged_plan problem (planned.NoSolution c))
      (verdict_of_plan problem (planned.NoSolution c)))
      (sym e) (record {
        rule = record {
          matrix = refl;
          timing = refl;
          tree = record {
            lemmas = record {
              ascending = λ k lt. absurd (omega arith);
              each =
                  All-nil (LemmaStands problem);
            };
            main = none_stands problem (values_of problem lemmas) (values_of problem []) tree
                (closed_stands problem (values_of problem lemmas) None tree closed h);
          };
        };
        of_kind = refl;
      })

  without_accepted : StandsWith None → has_open tree ≡ true → (cert : CertParts) → cert
      ≡ open_cert [] lemmas tree
      → Accepts (judged_plan problem (planned.Spent None cert))
      (verdict_of_plan problem (planned.Spent None cert))
  without_accepted h opened cert e =
      subst (λ c. Accepts (judged_plan problem (planned.Spent None c))
      (verdict_of_plan problem (planned.Spent None c))) (sym e) (record {
        rule = record {
          matrix = tt;
          timing = refl;
          tree = (
            record { lemmas = lemmas_stand; main = h },
            opened_places (main_goal problem (values_of problem lemmas) None true) [] tree h opened,
          );
        };
        of_kind = (refl, refl, refl);
      })

  -- what a plan ends with is accepted
  pub ends_accepted : (best : Option Found) (plan : Planned) → IfSome best (FoundStands problem)
      → StandsWith (load_found best) → Ends problem lemmas best tree plan
      → Accepts (judged_plan problem plan) (verdict_of_plan problem plan)
  ends_accepted one (planned.Best rows cert) is h ends =
      best_accepted ends.1.0 (subst (λ b. IfSome b (FoundStands problem)) ends.1.1 is) rows cert.frames
      ends.1.2
      (subst (λ b. StandsWith (load_found b)) ends.1.1 h) ends.0 cert ends.1.3
  ends_accepted one (planned.NoSolution cert) is h ends =
      none_accepted (subst (λ b. StandsWith (load_found b)) ends.1 h) ends.0 cert ends.2
  ends_accepted one (planned.Spent None cert) is h ends =
      without_accepted (subst (λ b. StandsWith (load_found b)) ends.1 h) ends.0 cert ends.2
  ends_accepted one (planned.Spent (Some rows) cert) is h ends =
      spent_accepted ends.1.0 (subst (λ b. IfSome b (FoundStands problem)) ends.1.1 is) rows cert.frames
      ends.1.2
      (subst (λ b. StandsWith (load_found b)) ends.1.1 h) ends.0 cert ends.1.3

  -- it is trimmed where the lemmas are
  pub ends_trimmed : (best : Option Found) (plan : Planned) → IfSome best (FoundStands problem)
      → StandsWith (load_found best) → All (LemmaIsTrimmed problem) lemmas
      → Ends problem lemmas best tree plan
      → IsTrimmedPlan problem plan
  ends_trimmed one (planned.Best rows cert) is h all ends =
      best_trimmed ends.1.0 (subst (λ b. IfSome b (FoundStands problem)) ends.1.1 is) rows cert.frames
      ends.1.2
      (subst (λ b. StandsWith (load_found b)) ends.1.1 h) all cert ends.1.3
  ends_trimmed one (planned.NoSolution cert) is h all ends = ap (λ (c : CertParts). c.lemmas) ends.2
  ends_trimmed one (planned.Spent rows cert) is h all ends = tt

  -- and it has a text
  pub ends_fits : (best : Option Found) (plan : Planned) → IfSome best (FoundStands problem)
      → StandsWith (load_found best) → Ends problem lemmas best tree plan → CertFits (cert_of_plan plan)
  ends_fits one (planned.Best rows cert) is h ends =
      best_fits ends.1.0 (subst (λ b. IfSome b (FoundStands problem)) ends.1.1 is) rows cert.frames ends.1.2
      (subst (λ b. StandsWith (load_found b)) ends.1.1 h) ends.0 cert ends.1.3
  ends_fits one (planned.NoSolution cert) is h ends =
      subst CertFits (sym ends.2) (record {
        frames = All-nil HasRoom;
        lemmas = All-nil LemmaFits;
        main = tree_fits (load_found one) h;
      })
  ends_fits one (planned.Spent None cert) is h ends =
      subst CertFits (sym ends.2) (record {
        frames = All-nil HasRoom;
        lemmas = lemmas_fit;
        main = tree_fits (load_found one) h;
      })
  ends_fits one (planned.Spent (Some rows) cert) is h ends =
      spent_fits ends.1.0 (subst (λ b. IfSome b (FoundStands problem)) ends.1.1 is) rows cert.frames ends.1.2
      (subst (λ b. StandsWith (load_found b)) ends.1.1 h) cert ends.1.3

  -- it is what the load of the best grouping and the least bound at the open leaves of the main tree tell
  pub ends_verdict : (best : Option Found) (plan : Planned) → IfSome best (FoundStands problem)
      → StandsWith (load_found best) → Ends problem lemmas best tree plan → (lowest : Option ℕ)
      → lowest ≡ least_of (bounds problem lemmas tree)
      → verdict_with (load_found best) (has_open tree) lowest ≡ verdict_of_plan problem plan
  ends_verdict one (planned.Best rows cert) is h ends lowest e =
      (λ i. verdict_with (load_found (ends.1.1 i)) (ends.0 i) lowest)
      ∙ ap (λ n. verdict.Best n)
      (sym (the_load ends.1.0 (subst (λ b. IfSome b (FoundStands problem)) ends.1.1 is) rows cert.frames
      ends.1.2
      (subst (λ b. StandsWith (load_found b)) ends.1.1 h)))
  ends_verdict one (planned.NoSolution cert) is h ends lowest e =
      λ i. verdict_with (load_found (ends.1 i)) (ends.0 i) lowest
  ends_verdict one (planned.Spent None cert) is h ends lowest e =
      (λ i. verdict_with (load_found (ends.1 i)) (ends.0 i) (e i))
      ∙ between None (bounds problem lemmas tree)
      ∙ ap (λ (c : CertParts). verdict.Between None
      (lower_of problem (values_of problem c.lemmas) None c.main_tree))
      (sym ends.2)
  ends_verdict one (planned.Spent (Some rows) cert) is h ends lowest e =
      let load : Option ℕ = Some ends.1.0.load in
      (λ i. verdict_with (load_found (ends.1.1 i)) (ends.0 i) (e i))
      ∙ between load (bounds problem lemmas tree)
      ∙ ap (λ (c : CertParts). verdict.Between load
      (lower_of problem (values_of problem c.lemmas) load c.main_tree))
      (sym ends.1.3)
      ∙ ap (λ b. verdict.Between b (lower_of problem (values_of problem cert.lemmas) b cert.main_tree))
      (sym (the_best ends.1.0 (subst (λ b. IfSome b (FoundStands problem)) ends.1.1 is) rows cert.frames
      ends.1.2
      (subst (λ b. StandsWith (load_found b)) ends.1.1 h)))
