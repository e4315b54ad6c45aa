-- What follows of a problem, for the crates above.
use Rattle.std.proofs.Common.{◌≡◌, ◌≢◌, ◌≤◌, ◌<◌, ◌+◌, ◌⊎◌, inl, inr, cond, length-append, ℕ, Bool, true, false, List, [], ◌∷◌, ◌++◌, length, take, get_or, suc, zero, if◌then◌else◌, append-nil, get_or-take, true≢false, Option, None, Some, Result, Ok, Err, find, unwrap_or, refl, sym, ap, ◌∙◌, arith, nat_lt, nat_eq, length-take, append_assoc}
use Rattle.std.specs.List.{list_any, flat_map, range_with_len}
use Rattle.std.specs.Str.{bytes_eq}
use Rattle.std.proofs.lemmas.Bool.{ltb-false, eqb-false, cases_eq, ne_eqb, eq-eqb}
use Rattle.std.proofs.lemmas.List.Folds.{list_any_at}
use Rattle.pack_model.specs.declared.problem.ProblemFault.{ProblemFault}
use Rattle.pack_model.specs.declared.problem.ProblemFault.TheVariants.{NoSignals, TooManySignals, TooManyItems, TwiceNamed, PduSenders, PduTooLarge, PeriodsMixed}
use Rattle.pack_model.specs.declared.item.Item.{Item}
use Rattle.pack_model.proofs.ListLaws.{none_from}
use Rattle.pack_model.specs.Problem.{Parts, IsProblem, parts_of, names_of, senders_of, sent_by, by_sender, items_of, items_in_order, hyper_of, is_too_large, first_repeat, first_clash, twice_named, pdu_senders, pdu_too_large}

-- what is passed at an Ok
passed : {A E : Type 0} (b : Bool) (e : E) (r : Result A E) (x : A) → (if b then Err e else r) ≡ Ok x
    → (b ≡ false) × (r ≡ Ok x)
passed true e r x h = absurd (let wrong : Err e ≡ Ok x = h in cc)
passed false e r x h = (refl, h)

not_twice : (o : Option ℕ) (next : Result Parts ProblemFault) (p : Parts) → twice_named o next ≡ Ok p
    → (o ≡ None) × (next ≡ Ok p)
not_twice None next p h = (refl, h)
not_twice (Some place) next p h = absurd (let wrong : Err (TwiceNamed (place + 2)) ≡ Ok p = h in cc)

no_clash : (o : Option ℕ) (next : Result Parts ProblemFault) (p : Parts) → pdu_senders o next ≡ Ok p
    → (o ≡ None) × (next ≡ Ok p)
no_clash None next p h = (refl, h)
no_clash (Some place) next p h = absurd (let wrong : Err (PduSenders (place + 2)) ≡ Ok p = h in cc)

none_large : (o : Option Item) (next : Result Parts ProblemFault) (p : Parts) → pdu_too_large o next ≡ Ok p
    → (o ≡ None) × (next ≡ Ok p)
none_large None next p h = (refl, h)
none_large (Some item) next p h =
    absurd (let wrong : Err (PduTooLarge (unwrap_or item.pdu 0)) ≡ Ok p = h in cc)

-- the items of later senders do not have an item of an earlier one
not_sent : (n a : ℕ) (y : Item) (ys : List Item) → y.sender < a
    → flat_map (sent_by (y ∷ ys)) (range_with_len a n) ≡ flat_map (sent_by ys) (range_with_len a n)
not_sent zero a y ys lt = refl
not_sent (suc n) a y ys lt =
    ap (λ b. cond b (y ∷ sent_by ys a) (sent_by ys a)
    ++ flat_map (sent_by (y ∷ ys)) (range_with_len (a + 1) n)) (ne_eqb y.sender a (omega arith))
    ∙ ap (λ l. sent_by ys a ++ l) (not_sent n (a + 1) y ys (omega arith))

-- one item more makes at most one more of them
one_sent : (n a : ℕ) (y : Item) (ys : List Item)
    → length (flat_map (sent_by (y ∷ ys)) (range_with_len a n))
    ≤ 1 + length (flat_map (sent_by ys) (range_with_len a n))
one_sent zero a y ys = omega arith
one_sent (suc n) a y ys = by (cases_eq y.sender a) (one_sent n (a + 1) y ys)
  where
    put : (b : Bool) → nat_eq y.sender a ≡ b
        → length (cond b (y ∷ sent_by ys a) (sent_by ys a)
        ++ flat_map (sent_by (y ∷ ys)) (range_with_len (a + 1) n))
        ≤ 1 + length (sent_by ys a ++ flat_map (sent_by ys) (range_with_len (a + 1) n))
        → length (flat_map (sent_by (y ∷ ys)) (range_with_len a (suc n)))
        ≤ 1 + length (flat_map (sent_by ys) (range_with_len a (suc n)))
    put b e h = rw e h

    by : (y.sender ≡ a) ⊎ (y.sender ≢ a)
        → length (flat_map (sent_by (y ∷ ys)) (range_with_len (a + 1) n))
        ≤ 1 + length (flat_map (sent_by ys) (range_with_len (a + 1) n))
        → length (flat_map (sent_by (y ∷ ys)) (range_with_len a (suc n)))
        ≤ 1 + length (flat_map (sent_by ys) (range_with_len a (suc n)))
    by (inl e) ih =
        put true (eq-eqb y.sender a e)
        (omega (
          arith,
          length-append (y ∷ sent_by ys a)
              (flat_map (sent_by (y ∷ ys)) (range_with_len (a + 1) n)),
          length-append (sent_by ys a) (flat_map (sent_by ys) (range_with_len (a + 1) n)),
          ap length (not_sent n (a + 1) y ys (omega arith)),
        ))
    by (inr ne) ih =
        put false (ne_eqb y.sender a ne)
        (omega (
          arith,
          length-append (sent_by ys a) (flat_map (sent_by (y ∷ ys)) (range_with_len (a + 1) n)),
          length-append (sent_by ys a) (flat_map (sent_by ys) (range_with_len (a + 1) n)),
        ))

none_sent : (n a : ℕ) → flat_map (sent_by []) (range_with_len a n) ≡ []
none_sent zero a = refl
none_sent (suc n) a = none_sent n (a + 1)

-- by sender there are no more items
pub length-by_sender : (n : ℕ) (xs : List Item) → length (by_sender n xs) ≤ length xs
length-by_sender n [] = omega (arith, ap length (none_sent n 0))
length-by_sender n (y ∷ ys) = omega (arith, one_sent n 0 y ys, length-by_sender n ys)

-- what each test of a problem says where it stands
pub record Tests (p : Parts) : Type 0 where
  pub some : 0 < length p.signals
  pub few : length p.signals ≤ 2048
  pub different : first_repeat [] (names_of p.signals) ≡ None
  pub one_sender : first_clash [] p.signals ≡ None
  pub no_large : find is_too_large (items_in_order p.signals) ≡ None
  pub few_items : length p.items ≤ 128
  pub few_in_order : length (items_in_order p.signals) ≤ 128
  pub items : p.items ≡ items_of p.signals
  pub senders : p.senders ≡ senders_of p.signals
  pub hyper : p.hyper ≡ hyper_of p.network p.signals
  pub hyper_high : p.hyper ≤ 1000000000000000

pub tests : (p : Parts) → IsProblem p → Tests p
tests p stands =
    let a = passed (nat_eq (length p.signals) 0) NoSignals _ p stands.stands in
    let b = passed (nat_lt 2048 (length p.signals)) TooManySignals _ p a.1 in
    let c = not_twice (first_repeat [] (names_of p.signals)) _ p b.1 in
    let d = no_clash (first_clash [] p.signals) _ p c.1 in
    let e = none_large (find is_too_large (items_in_order p.signals)) _ p d.1 in
    let f = passed (nat_lt 128 (length (items_in_order p.signals))) TooManyItems _ p e.1 in
    let g = passed (nat_lt 1000000000000000 (hyper_of p.network p.signals)) PeriodsMixed _ p f.1 in
    let same : parts_of p.network p.signals ≡ p = ok_same _ p g.1 in
    let not_empty = eqb-false (length p.signals) 0 a.0 in
    let items : p.items ≡ items_of p.signals = sym (ap (λ (q : Parts). q.items) same) in
    let hyper : p.hyper ≡ hyper_of p.network p.signals = sym (ap (λ (q : Parts). q.hyper) same) in
    let few : length (items_in_order p.signals) ≤ 128 =
    ltb-false 128 (length (items_in_order p.signals)) f.0 in
    record {
      some = omega (arith, not_empty);
      few = ltb-false 2048 (length p.signals) b.0;
      different = c.0;
      one_sender = d.0;
      no_large = e.0;
      few_items =
          omega (
            arith,
            ap length items,
            length-by_sender (length (senders_of p.signals)) (items_in_order p.signals),
          );
      few_in_order = few;
      items = items;
      senders = sym (ap (λ (q : Parts). q.senders) same);
      hyper = hyper;
      hyper_high = let high = ltb-false 1000000000000000 (hyper_of p.network p.signals) g.0 in omega arith;
    }
  where
    ok_same : (x y : Parts) → (let r : Result Parts ProblemFault = Ok x in r ≡ Ok y) → x ≡ y
    ok_same x y h = cc

-- names in which no repeat is found differ from those before them
differ : (earlier names : List (List ℕ)) (i : ℕ) (d : List ℕ) → first_repeat earlier names ≡ None
    → i < length names → list_any (bytes_eq (get_or names i d)) (earlier ++ take i names) ≡ false
differ earlier [] i d h lt = absurd (omega arith)
differ earlier (x ∷ xs) zero d h lt = ap (list_any (bytes_eq x)) (append-nil earlier)
    ∙ (none_from (list_any (bytes_eq x) earlier) _ _ h).0
differ earlier (x ∷ xs) (suc k) d h lt =
    ap (list_any (bytes_eq (get_or xs k d))) (sym (append_assoc earlier (x ∷ []) (take k xs)))
    ∙ differ (earlier ++ x ∷ []) xs k d (none_from (list_any (bytes_eq x) earlier) _ _ h).1 (omega arith)

-- the names of a problem's signals differ
pub names_differ : (names : List (List ℕ)) → first_repeat [] names ≡ None → (i j : ℕ) (d : List ℕ) → i < j
    → j < length names → bytes_eq (get_or names j d) (get_or names i d) ≡ false
names_differ names different i j d before within = by (bytes_eq (get_or names j d) (get_or names i d)) refl
  where
    by : (b : Bool) → bytes_eq (get_or names j d) (get_or names i d) ≡ b
        → bytes_eq (get_or names j d) (get_or names i d) ≡ false
    by false e = e
    by true e =
        let short : i < length (take j names) = simp length-take (omega arith) in
        let found : list_any (bytes_eq (get_or names j d)) (take j names) ≡ true =
        list_any_at (bytes_eq (get_or names j d)) (take j names) i d short
        (ap (bytes_eq (get_or names j d)) (get_or-take j names i d before) ∙ e) in
        absurd (true≢false (sym found ∙ differ [] names j d different within))

pub element : {X : Type 0} (xs : List X) (i : ℕ) → i < length xs → (x : X) × (x ≡ get_or xs i x)
element [] i lt = absurd (omega arith)
element (x ∷ xs) zero lt = (x, refl)
element (x ∷ xs) (suc k) lt = element xs k (omega arith)
