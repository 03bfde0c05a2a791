use Rattle.std.proofs.Common.{◌≡◌, ◌≢◌, ◌<◌, ◌∷◌, Some, length, ap, sym, refl, arith, ◌∙◌}
use Rattle.std.specs.Prelude.{slice_get}
use Rattle.apd_boxes.specs.Few.{owned_in}
use Rattle.apd_boxes.specs.Boxes.{adding, BoxList}
use Rattle.apd_boxes.specs.Packed.{own}
use Rattle.apd_boxes.proofs.Apart.{later_there}
use Rattle.apd_boxes.proofs.Packing.{added_later, added_query, count_owned, few_there, owned_read}
use Rattle.apd_boxes.proofs.boxes.Boxes.add.Goals as goal

-- the query's box

pub add-requires-clause-there : goal.add-requires-clause-there
add-requires-clause-there c = few_there c.self.inside.calls.items c.self.inside.lists.items c.self.inside.query c.self.inside.rows.items c.self.invariant 0 c.self.inside.query refl

pub invariant_of-self-then-owner-eq0 : goal.invariant_of-self-then-owner-eq0
invariant_of-self-then-owner-eq0 c = (added_query c.self.inside.calls.items c.self.inside.lists.items c.add.new.lists.items c.self.inside.query c.self.inside.rows.items c.self.invariant c.args.number c.args.is_first c.args.is_exit c.add.new.self c.in_ok-earlier.ensures.row c.in_ok-earlier.ensures.lists).0

pub returns-then-owner-eq0-clause-ok : goal.returns-then-owner-eq0-clause-ok
returns-then-owner-eq0-clause-ok c =
    (added_query c.self.inside.calls.items c.self.inside.lists.items c.add.new.lists.items c.self.inside.query c.self.inside.rows.items c.self.invariant c.args.number c.args.is_first c.args.is_exit c.add.new.self c.in_ok-earlier.ensures.row c.in_ok-earlier.ensures.lists).1
    ∙ ap (λ l. adding l 0 c.args.number c.args.is_first c.args.is_exit) c.self.view_is
    ∙ ap (λ b. adding c.args.self.now b c.args.number c.args.is_first c.args.is_exit) (sym c.if-owner-eq0.true)

-- another box

pub add-requires-2-clause-there : goal.add-requires-2-clause-there
add-requires-2-clause-there c =
    let later : c.args.owner ≢ 0 = grind (arith, c.if-owner-eq0.false) in
    let within : c.args.owner < length (c.self.inside.query ∷ c.self.inside.rows.items) = omega (arith, c.requires.owner, ap (λ (l : BoxList). length l.owned) c.self.view_is, count_owned c.self.inside.lists.items c.self.inside.query c.self.inside.rows.items) in
    few_there c.self.inside.calls.items c.self.inside.lists.items c.self.inside.query c.self.inside.rows.items c.self.invariant c.args.owner c.index_mut-row.result.now
    (later_there c.self.inside.query c.self.inside.rows.items c.args.owner c.index_mut-row.result.now later within c.index_mut-row.ensures.value)

pub invariant_of-self-2 : goal.invariant_of-self-2
invariant_of-self-2 c =
    let later : c.args.owner ≢ 0 = grind (arith, c.if-owner-eq0.false) in
    let within : c.args.owner < length (c.self.inside.query ∷ c.self.inside.rows.items) = omega (arith, c.requires.owner, ap (λ (l : BoxList). length l.owned) c.self.view_is, count_owned c.self.inside.lists.items c.self.inside.query c.self.inside.rows.items) in
    (added_later c.self.inside.calls.items c.self.inside.lists.items c.add-2.new.lists.items c.self.inside.query c.self.inside.rows.items c.self.invariant c.args.number c.args.is_first c.args.is_exit c.args.owner c.index_mut-row.result.now c.add-2.new.self later within c.index_mut-row.ensures.value c.in_ok-earlier-2.ensures.row c.in_ok-earlier-2.ensures.lists (c.in_ok-earlier-2.ensures.told c.self.inside.calls.items) c.in_ok-earlier-2.ensures.from c.in_ok-earlier-2.ensures.whole).0

pub returns-clause-earlier : goal.returns-clause-earlier
returns-clause-earlier c =
    let later : c.args.owner ≢ 0 = grind (arith, c.if-owner-eq0.false) in
    let within : c.args.owner < length (c.self.inside.query ∷ c.self.inside.rows.items) = omega (arith, c.requires.owner, ap (λ (l : BoxList). length l.owned) c.self.view_is, count_owned c.self.inside.lists.items c.self.inside.query c.self.inside.rows.items) in
    let there : slice_get c.args.self.now.owned c.args.owner ≡ Some (owned_in c.self.inside.lists.items (own c.index_mut-row.result.now)) =
    ap (λ (l : BoxList). slice_get l.owned c.args.owner) (sym c.self.view_is) ∙ owned_read c.self.inside.lists.items c.self.inside.query c.self.inside.rows.items c.args.owner c.index_mut-row.result.now
    (later_there c.self.inside.query c.self.inside.rows.items c.args.owner c.index_mut-row.result.now later within c.index_mut-row.ensures.value) in
    rw there c.in_ok-earlier-2.ensures.earlier

pub returns-clause-ok : goal.returns-clause-ok
returns-clause-ok c =
    let later : c.args.owner ≢ 0 = grind (arith, c.if-owner-eq0.false) in
    let within : c.args.owner < length (c.self.inside.query ∷ c.self.inside.rows.items) = omega (arith, c.requires.owner, ap (λ (l : BoxList). length l.owned) c.self.view_is, count_owned c.self.inside.lists.items c.self.inside.query c.self.inside.rows.items) in
    (added_later c.self.inside.calls.items c.self.inside.lists.items c.add-2.new.lists.items c.self.inside.query c.self.inside.rows.items c.self.invariant c.args.number c.args.is_first c.args.is_exit c.args.owner c.index_mut-row.result.now c.add-2.new.self later within c.index_mut-row.ensures.value c.in_ok-earlier-2.ensures.row c.in_ok-earlier-2.ensures.lists (c.in_ok-earlier-2.ensures.told c.self.inside.calls.items) c.in_ok-earlier-2.ensures.from c.in_ok-earlier-2.ensures.whole).1
    ∙ ap (λ l. adding l c.args.owner c.args.number c.args.is_first c.args.is_exit) c.self.view_is
