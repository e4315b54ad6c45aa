use Rattle.std.proofs.Common.{◌≡◌, ◌<◌, ◌≤◌, length, subst, sym, ap, ◌∙◌, arith, Ok, vec_len, IsPermutation}
use Rattle.pack_model.specs.Problem.{items_in_order, items_of, names_of, senders_of, hyper_of}
use Rattle.pack_model.proofs.ProblemSteps.{IsAdmitted, admitted, problem_stands, items_too_many, periods_mixed, sorted_items, same_parts}
use Rattle.pack_model.proofs.problem.problem_of.Goals as goal

pub returns-then-len-gt-MAX_ITEMS : goal.returns-then-len-gt-MAX_ITEMS
returns-then-len-gt-MAX_ITEMS c =
    let is : IsAdmitted c.args.signals.items =
    admitted c.args.signals.items c.as_slice.result.now c.as_slice-2.result.now c.as_slice-4.result.now
    c.in_ok-items.items.items c.as_slice-5.result.now
    (vec_len c.args.signals) c.is_empty.result c.large_pdu.result
    (omega arith) c.is_empty.ensures c.if-is_empty.false
    (omega arith) c.as_slice.ensures.value c.in_ok-names.ensures.names.1
    c.as_slice-2.ensures.value c.in_ok-places.ensures.places.1 c.in_ok-items.ensures
    c.as_slice-4.ensures.value c.as_slice-5.ensures.value c.large_pdu.ensures c.in_default.is in
    let items : c.in_ok-items.items.items ≡ items_in_order c.args.signals.items = c.in_ok-items.ensures
    ∙ ap items_in_order c.as_slice-4.ensures.value in
    let many : 128 < length (items_in_order c.args.signals.items) = omega (arith, ap length items) in
    sym (items_too_many c.args.network c.args.signals.items is many)

pub returns-in_default-common_period : goal.returns-in_default-common_period
returns-in_default-common_period c =
    let is : IsAdmitted c.args.signals.items =
    admitted c.args.signals.items c.as_slice.result.now c.as_slice-2.result.now c.as_slice-4.result.now
    c.in_ok-items.items.items c.as_slice-5.result.now
    (vec_len c.args.signals) c.is_empty.result c.large_pdu.result
    (omega arith) c.is_empty.ensures c.if-is_empty.false
    (omega arith) c.as_slice.ensures.value c.in_ok-names.ensures.names.1
    c.as_slice-2.ensures.value c.in_ok-places.ensures.places.1 c.in_ok-items.ensures
    c.as_slice-4.ensures.value c.as_slice-5.ensures.value c.large_pdu.ensures c.in_default.is in
    let items : c.in_ok-items.items.items ≡ items_in_order c.args.signals.items = c.in_ok-items.ensures
    ∙ ap items_in_order c.as_slice-4.ensures.value in
    let few : length (items_in_order c.args.signals.items) ≤ 128 = omega (arith, ap length items) in
    let long : 1000000000000000 < hyper_of c.args.network c.args.signals.items =
    subst (λ s. 1000000000000000
    < hyper_of c.args.network s) c.as_slice-6.ensures.value c.in_default-common_period.ensures in
    sym (periods_mixed c.args.network c.args.signals.items is few long)

pub invariant_of-result : goal.invariant_of-result
invariant_of-result c =
    let is : IsAdmitted c.args.signals.items =
    admitted c.args.signals.items c.as_slice.result.now c.as_slice-2.result.now c.as_slice-4.result.now
    c.in_ok-items.items.items c.as_slice-5.result.now
    (vec_len c.args.signals) c.is_empty.result c.large_pdu.result
    (omega arith) c.is_empty.ensures c.if-is_empty.false
    (omega arith) c.as_slice.ensures.value c.in_ok-names.ensures.names.1
    c.as_slice-2.ensures.value c.in_ok-places.ensures.places.1 c.in_ok-items.ensures
    c.as_slice-4.ensures.value c.as_slice-5.ensures.value c.large_pdu.ensures c.in_default.is in
    let items : c.in_ok-items.items.items ≡ items_in_order c.args.signals.items = c.in_ok-items.ensures
    ∙ ap items_in_order c.as_slice-4.ensures.value in
    let few : length (items_in_order c.args.signals.items) ≤ 128 = omega (arith, ap length items) in
    let sorted : c.sort_by_sender.new.items.items ≡ items_of c.args.signals.items =
    sorted_items c.args.signals.items c.as_slice-4.result.now c.in_ok-items.items.items
    c.sort_by_sender.new.items.items c.in_ok-items.ensures c.as_slice-4.ensures.value
    c.in_ok-sort_by_sender.ensures.order in
    let senders : c.in_ok-senders.senders.keys ≡ senders_of c.args.signals.items = c.in_ok-senders.ensures
    ∙ ap senders_of c.as_slice-3.ensures.value in
    let hyper : c.in-Some-common_period.hyper ≡ hyper_of c.args.network c.args.signals.items =
    c.in-Some-common_period.ensures.0 ∙ ap (hyper_of c.args.network) c.as_slice-6.ensures.value in
    let short : hyper_of c.args.network c.args.signals.items ≤ 1000000000000000 =
    let high : c.in-Some-common_period.hyper ≤ 1000000000000000 = c.in-Some-common_period.ensures.1 in
    omega arith in (
      c.in_ok-names.ensures.names.0 ∙ ap names_of c.as_slice.ensures.value,
      subst (λ ys.
          IsPermutation ys c.sort_by_sender.new.items.items) items c.in_ok-sort_by_sender.ensures.same,
      record {
        network = c.requires.network;
        signals = c.requires.signals;
        stands = problem_stands c.args.network c.args.signals.items is few short
            ∙ ap Ok (same_parts c.args.network c.args.signals.items _ _ _ sorted senders hyper);
      },
    )

pub returns : goal.returns
returns c =
    let is : IsAdmitted c.args.signals.items =
    admitted c.args.signals.items c.as_slice.result.now c.as_slice-2.result.now c.as_slice-4.result.now
    c.in_ok-items.items.items c.as_slice-5.result.now
    (vec_len c.args.signals) c.is_empty.result c.large_pdu.result
    (omega arith) c.is_empty.ensures c.if-is_empty.false
    (omega arith) c.as_slice.ensures.value c.in_ok-names.ensures.names.1
    c.as_slice-2.ensures.value c.in_ok-places.ensures.places.1 c.in_ok-items.ensures
    c.as_slice-4.ensures.value c.as_slice-5.ensures.value c.large_pdu.ensures c.in_default.is in
    let items : c.in_ok-items.items.items ≡ items_in_order c.args.signals.items = c.in_ok-items.ensures
    ∙ ap items_in_order c.as_slice-4.ensures.value in
    let few : length (items_in_order c.args.signals.items) ≤ 128 = omega (arith, ap length items) in
    let sorted : c.sort_by_sender.new.items.items ≡ items_of c.args.signals.items =
    sorted_items c.args.signals.items c.as_slice-4.result.now c.in_ok-items.items.items
    c.sort_by_sender.new.items.items c.in_ok-items.ensures c.as_slice-4.ensures.value
    c.in_ok-sort_by_sender.ensures.order in
    let senders : c.in_ok-senders.senders.keys ≡ senders_of c.args.signals.items = c.in_ok-senders.ensures
    ∙ ap senders_of c.as_slice-3.ensures.value in
    let hyper : c.in-Some-common_period.hyper ≡ hyper_of c.args.network c.args.signals.items =
    c.in-Some-common_period.ensures.0 ∙ ap (hyper_of c.args.network) c.as_slice-6.ensures.value in
    let short : hyper_of c.args.network c.args.signals.items ≤ 1000000000000000 =
    let high : c.in-Some-common_period.hyper ≤ 1000000000000000 = c.in-Some-common_period.ensures.1 in
    omega arith in
    sym (problem_stands c.args.network c.args.signals.items is few short
    ∙ ap Ok (same_parts c.args.network c.args.signals.items _ _ _ sorted senders hyper))
