use Rattle.std.proofs.Common.{◌≡◌, ◌<◌, false, true, length, ap, arith, refl, subst, sym, ◌∙◌, Some, None}
use Rattle.std.specs.Prelude.{slice_get}
use Rattle.std.proofs.lemmas.Bool.{eq-eqb, ne_eqb}
use Rattle.apd_points.specs.declared.packed.WholePoint.{WholePoint}
use Rattle.apd_points.specs.Packed.{is_other, links_of, own, points_of, step_in, told_as, unpacked_from, whole_in, IsPlace, Listed}
use Rattle.apd_points.proofs.Packing.{first_read, link_at, next_read, other_read, point_at, row_there, unpacked_length}
use Rattle.apd_points.proofs.points.Points.read.Goals as goal

pub index-row-requires : goal.index-row-requires
index-row-requires c =
    let n = sym (unpacked_length c.self.inside.others.items 0 c.self.inside.rows.items) ∙ ap (λ (l : Listed). length l.rows) c.self.view_is in
    omega (arith, c.requires, n, c.self.inside.rows.ok.0)

pub whole_at-requires : goal.whole_at-requires
whole_at-requires c =
    let n = sym (unpacked_length c.self.inside.others.items 0 c.self.inside.rows.items) ∙ ap (λ (l : Listed). length l.rows) c.self.view_is in
    let l : c.args.place < length c.self.inside.rows.items = omega (arith, c.requires, n) in
    let t : is_other c.index-row.result.now ≡ true = eq-eqb c.index-row.result.now.clause 65534 c.if-row.true in
    subst (IsPlace (length c.self.inside.others.items)) (sym c.get-number.ensures) (row_there c.self.inside.rows.items c.self.inside.others.items c.args.place c.index-row.result.now l c.index-row.ensures c.self.invariant t)

pub returns-then-row-clause-point : goal.returns-then-row-clause-point
returns-then-row-clause-point c =
    let n = sym (unpacked_length c.self.inside.others.items 0 c.self.inside.rows.items) ∙ ap (λ (l : Listed). length l.rows) c.self.view_is in
    let l : c.args.place < length c.self.inside.rows.items = omega (arith, c.requires, n) in
    let t : is_other c.index-row.result.now ≡ true = eq-eqb c.index-row.result.now.clause 65534 c.if-row.true in
    ap (λ (l : Listed). slice_get (points_of l) c.args.place) (sym c.self.view_is)
    ∙ point_at (unpacked_from c.self.inside.others.items 0 c.self.inside.rows.items) c.args.place _ (other_read c.self.inside.rows.items c.self.inside.others.items c.args.place c.index-row.result.now l c.index-row.ensures t (whole_in c.self.inside.others.items c.index-row.result.now.number (own c.args.place c.index-row.result.now)) refl)
    ∙ ap (λ (w : WholePoint). Some w.point) (sym (c.whole_at.ensures (own c.args.place c.index-row.result.now) ∙ ap (λ k. whole_in c.self.inside.others.items k (own c.args.place c.index-row.result.now)) c.get-number.ensures))

pub returns-then-row-clause-earlier : goal.returns-then-row-clause-earlier
returns-then-row-clause-earlier c =
    let n = sym (unpacked_length c.self.inside.others.items 0 c.self.inside.rows.items) ∙ ap (λ (l : Listed). length l.rows) c.self.view_is in
    let l : c.args.place < length c.self.inside.rows.items = omega (arith, c.requires, n) in
    let t : is_other c.index-row.result.now ≡ true = eq-eqb c.index-row.result.now.clause 65534 c.if-row.true in
    ap (λ (l : Listed). slice_get (links_of l) c.args.place) (sym c.self.view_is)
    ∙ link_at (unpacked_from c.self.inside.others.items 0 c.self.inside.rows.items) c.args.place _ (other_read c.self.inside.rows.items c.self.inside.others.items c.args.place c.index-row.result.now l c.index-row.ensures t (whole_in c.self.inside.others.items c.index-row.result.now.number (own c.args.place c.index-row.result.now)) refl)
    ∙ ap (λ (w : WholePoint). Some w.earlier) (sym (c.whole_at.ensures (own c.args.place c.index-row.result.now) ∙ ap (λ k. whole_in c.self.inside.others.items k (own c.args.place c.index-row.result.now)) c.get-number.ensures))

pub returns-then-row-eq0-clause-point : goal.returns-then-row-eq0-clause-point
returns-then-row-eq0-clause-point c =
    let n = sym (unpacked_length c.self.inside.others.items 0 c.self.inside.rows.items) ∙ ap (λ (l : Listed). length l.rows) c.self.view_is in
    let l : c.args.place < length c.self.inside.rows.items = omega (arith, c.requires, n) in
    let f : is_other c.index-row.result.now ≡ false = ne_eqb c.index-row.result.now.clause 65534 c.if-row.false in
    ap (λ (l : Listed). slice_get (points_of l) c.args.place) (sym c.self.view_is)
    ∙ point_at (unpacked_from c.self.inside.others.items 0 c.self.inside.rows.items) c.args.place _ (first_read c.self.inside.rows.items c.self.inside.others.items c.args.place c.index-row.result.now l c.index-row.ensures f c.if-row-eq0.true)
    ∙ ap (λ (w : WholePoint). Some w.point) (sym (c.told_as.ensures ∙ ap (told_as c.args.place c.index-row.result.now None) c.get-number.ensures))

pub returns-then-row-eq0-clause-earlier : goal.returns-then-row-eq0-clause-earlier
returns-then-row-eq0-clause-earlier c =
    let n = sym (unpacked_length c.self.inside.others.items 0 c.self.inside.rows.items) ∙ ap (λ (l : Listed). length l.rows) c.self.view_is in
    let l : c.args.place < length c.self.inside.rows.items = omega (arith, c.requires, n) in
    let f : is_other c.index-row.result.now ≡ false = ne_eqb c.index-row.result.now.clause 65534 c.if-row.false in
    ap (λ (l : Listed). slice_get (links_of l) c.args.place) (sym c.self.view_is)
    ∙ link_at (unpacked_from c.self.inside.others.items 0 c.self.inside.rows.items) c.args.place _ (first_read c.self.inside.rows.items c.self.inside.others.items c.args.place c.index-row.result.now l c.index-row.ensures f c.if-row-eq0.true)
    ∙ ap (λ (w : WholePoint). Some w.earlier) (sym (c.told_as.ensures ∙ ap (told_as c.args.place c.index-row.result.now None) c.get-number.ensures))

pub returns-clause-point : goal.returns-clause-point
returns-clause-point c =
    let n = sym (unpacked_length c.self.inside.others.items 0 c.self.inside.rows.items) ∙ ap (λ (l : Listed). length l.rows) c.self.view_is in
    let l : c.args.place < length c.self.inside.rows.items = omega (arith, c.requires, n) in
    let f : is_other c.index-row.result.now ≡ false = ne_eqb c.index-row.result.now.clause 65534 c.if-row.false in
    ap (λ (l : Listed). slice_get (points_of l) c.args.place) (sym c.self.view_is)
    ∙ point_at (unpacked_from c.self.inside.others.items 0 c.self.inside.rows.items) c.args.place _ (next_read c.self.inside.rows.items c.self.inside.others.items c.args.place c.index-row.result.now l c.index-row.ensures f c.if-row-eq0.false)
    ∙ ap (λ (w : WholePoint). Some w.point) (sym (c.told_as-2.ensures ∙ ap (λ s. told_as c.args.place c.index-row.result.now s None) (c.step_in.ensures ∙ ap (step_in c.args.place) c.get-number.ensures)))

pub returns-clause-earlier : goal.returns-clause-earlier
returns-clause-earlier c =
    let n = sym (unpacked_length c.self.inside.others.items 0 c.self.inside.rows.items) ∙ ap (λ (l : Listed). length l.rows) c.self.view_is in
    let l : c.args.place < length c.self.inside.rows.items = omega (arith, c.requires, n) in
    let f : is_other c.index-row.result.now ≡ false = ne_eqb c.index-row.result.now.clause 65534 c.if-row.false in
    ap (λ (l : Listed). slice_get (links_of l) c.args.place) (sym c.self.view_is)
    ∙ link_at (unpacked_from c.self.inside.others.items 0 c.self.inside.rows.items) c.args.place _ (next_read c.self.inside.rows.items c.self.inside.others.items c.args.place c.index-row.result.now l c.index-row.ensures f c.if-row-eq0.false)
    ∙ ap (λ (w : WholePoint). Some w.earlier) (sym (c.told_as-2.ensures ∙ ap (λ s. told_as c.args.place c.index-row.result.now s None) (c.step_in.ensures ∙ ap (step_in c.args.place) c.get-number.ensures)))
