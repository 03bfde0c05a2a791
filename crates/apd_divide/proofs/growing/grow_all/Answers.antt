use Rattle.std.proofs.Common.{◌≡◌, ◌-◌, ◌<◌, List, [], ◌∷◌, ◌++◌, ◌∙◌, sym, ap, subst, arith, length, take, vec_len}
use Rattle.std.proofs.lemmas.List.{length_push}
use Rattle.apd_term.specs.Term.{Term}
use Rattle.apd_term.specs.Canonical.{canonical}
use Rattle.apd_ports.specs.declared.point.PointId.{PointId}
use Rattle.apd_record.specs.Recorded.{Recorded}
use Rattle.apd_record.specs.Sound.{IsKept}
use Rattle.apd_divide.specs.declared.node.NodeRow.{NodeRow}
use Rattle.apd_divide.specs.declared.growing.PendingCall.{PendingCall}
use Rattle.apd_divide.specs.Tree.{Tree}
use Rattle.apd_divide.specs.Rows.{nodes}
use Rattle.apd_divide.specs.Recorded.{tree}
use Rattle.apd_divide.specs.Growing.{stacked, calls_at, blank_row}
use Rattle.apd_divide.proofs.Stacked.{Grows, grows_first, grows_at, grows_all}
use Rattle.apd_divide.proofs.growing.grow_all.Goals as goal

abbrev first_call : PointId → Term → List PendingCall
first_call exit label = record { exit = exit; label = label } ∷ []

more_made : (R : Recorded) → IsKept R → (whole : Tree) (made new : List NodeRow) (old pending : List PendingCall) (x : PendingCall) (own : NodeRow) → Grows R whole made old → old ≡ pending ++ x ∷ []
    → new ≡ made ++ own ∷ [] → nodes whole - length new < nodes whole - length made
more_made R kept whole made new old pending x own g old_is new_is =
    let more = (grows_at R kept whole made old pending x g old_is).more in
    let n = ap length new_is ∙ length_push made own in
    omega (arith, more, n)

grows_on : (R : Recorded) → IsKept R → (whole : Tree) (made new : List NodeRow) (old pending left : List PendingCall) (x : PendingCall) (own : NodeRow) → Grows R whole made old → old ≡ pending ++ x ∷ []
    → own ≡ blank_row R x.exit.0 x.label → left ≡ pending ++ stacked (calls_at R x.exit.0 x.label) → new ≡ made ++ own ∷ [] → Grows R whole new left
grows_on R kept whole made new old pending left x own g old_is own_is left_is new_is =
    subst (λ (p : List PendingCall). Grows R whole new p) (sym left_is)
    (subst (λ (rs : List NodeRow). Grows R whole rs (pending ++ stacked (calls_at R x.exit.0 x.label))) (sym (new_is ∙ ap (λ z. made ++ z ∷ []) own_is))
    (grows_at R kept whole made old pending x g old_is).next)

pub calls-init : goal.calls-init
calls-init c =
    let items : c.push.new.self.items ≡ first_call c.args.exit c.of_term.result = c.in_ok-push.ensures.items ∙ ap (λ (xs : List PendingCall). xs ++ first_call c.args.exit c.of_term.result) c.requires.pending in
    let named = items ∙ ap (first_call c.args.exit) (c.of_term.ensures ∙ c.in_ok-root.ensures) in
    let m = c.requires.no_len in
    let z : vec_len c.args.made.now ≡ length c.args.made.now.items = m ∙ sym (ap length c.requires.none) in
    record {
      grows = subst (λ (p : List PendingCall). Grows c.args.recorded.now (tree c.args.recorded.now c.args.exit.0 c.args.label.now) c.args.made.now.items p) (sym named)
          (subst (λ (rs : List NodeRow). Grows c.args.recorded.now (tree c.args.recorded.now c.args.exit.0 c.args.label.now) rs (first_call c.args.exit (canonical c.args.label.now))) (sym c.requires.none)
          (grows_first c.args.recorded.now c.args.exit.0 c.args.label.now c.requires.labelled));
      few = omega (arith, m);
      len = z;
    }

pub grow-grew-requires-clause-labelled : goal.grow-grew-requires-clause-labelled
grow-grew-requires-clause-labelled c = (grows_at c.args.recorded.now c.requires.kept (tree c.args.recorded.now c.args.exit.0 c.args.label.now) c.calls.made.items c.calls.pending.items c.pop.new.self.items c.in-Some.next c.calls.invariant.grows c.in-Some.ensures.items).labelled

pub calls-smaller : goal.calls-smaller
calls-smaller c =
    more_made c.args.recorded.now c.requires.kept (tree c.args.recorded.now c.args.exit.0 c.args.label.now) c.calls.made.items c.push_reserved.new.self.items c.calls.pending.items c.pop.new.self.items c.in-Some.next c.in_ok-row.row
    c.calls.invariant.grows c.in-Some.ensures.items (c.push_reserved.ensures.items ∙ ap (λ rs. rs ++ c.in_ok-row.row ∷ []) c.room_for_one.ensures.items)

pub calls-preserved : goal.calls-preserved
calls-preserved c =
    let put = c.push_reserved.ensures.items ∙ ap (λ rs. rs ++ c.in_ok-row.row ∷ []) c.room_for_one.ensures.items in
    let n = ap length put ∙ length_push c.calls.made.items c.in_ok-row.row in
    let l = c.push_reserved.ensures.len in
    let m = c.room_for_one.ensures.len in
    let q = c.calls.invariant.len in
    let few = c.if-len-ge-MOST_KEPT.false in
    let len = c.len.ensures in
    record {
      grows =
          grows_on c.args.recorded.now c.requires.kept (tree c.args.recorded.now c.args.exit.0 c.args.label.now) c.calls.made.items c.push_reserved.new.self.items c.calls.pending.items c.pop.new.self.items c.grow-grew.new.pending.items c.in-Some.next c.in_ok-row.row
          c.calls.invariant.grows c.in-Some.ensures.items c.in_ok-row.ensures.row c.in_ok-row.ensures.pending put;
      few = omega (arith, l, m, few, len);
      len = omega (arith, l, m, n, q);
    }

pub returns : goal.returns
returns c =
    let z = c.in_default.ensures.cases.0 in
    let rest = c.in_default.ensures.rest ∙ ap (λ n. take (n - 1) c.calls.pending.items) z in
    let none = c.in_default.ensures.items ∙ ap (λ (xs : List PendingCall). xs ++ []) rest in
    let few = c.calls.invariant.few in
    let len = c.calls.invariant.len in
    record {
      rows = grows_all c.args.recorded.now (tree c.args.recorded.now c.args.exit.0 c.args.label.now) c.calls.made.items (subst (λ (p : List PendingCall). Grows c.args.recorded.now (tree c.args.recorded.now c.args.exit.0 c.args.label.now) c.calls.made.items p) none c.calls.invariant.grows);
      few = omega (arith, few, len);
      len = len;
    }
