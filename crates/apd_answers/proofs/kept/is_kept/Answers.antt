use Rattle.std.proofs.Common.{◌<◌, ◌+◌, ◌||◌, length, get_or, refl, ap, sym, ◌∙◌, rules, drop}
use Rattle.apd_answers.specs.Marks.{mark_of_form, marked, replied_mark, with_reply}
use Rattle.apd_answers.specs.Store.{is_kept_as}
use Rattle.apd_answers.proofs.Marking.{kept_end, kept_marked, kept_next, shown_at}
use Rattle.apd_answers.proofs.kept.is_kept.Goals as goal

pub places-init : goal.places-init
places-init c = kept_marked c.args.pairs.now c.args.form.now c.args.reply.now

pub bounds-pairs-place : goal.bounds-pairs-place
bounds-pairs-place c = (shown_at replied_mark (with_reply (mark_of_form c.args.form.now) c.args.reply.now) c.args.pairs.now c.args.places.now c.places.place-index (get_or c.args.places.now c.places.place-index 0) c.requires c.places-test.true refl).0

pub offset_bounds-pairs-place : goal.offset_bounds-pairs-place
offset_bounds-pairs-place c =
    let within : get_or c.args.places.now c.places.place-index 0 < length c.args.pairs.now =
    (shown_at replied_mark (with_reply (mark_of_form c.args.form.now) c.args.reply.now) c.args.pairs.now c.args.places.now c.places.place-index (get_or c.args.places.now c.places.place-index 0) c.requires c.places-test.true refl).0 in
    search rules

pub returns-then-branch : goal.returns-then-branch
returns-then-branch c =
    let ms = marked replied_mark (with_reply (mark_of_form c.args.form.now) c.args.reply.now) c.args.pairs.now in
    sym (c.places.invariant
    ∙ kept_next replied_mark (with_reply (mark_of_form c.args.form.now) c.args.reply.now) c.args.pairs.now c.args.places.now c.places.place-index c.requires c.index-pairs-place.result c.args.form.now c.args.reply.now c.in_ok-is_such.field-0
    c.places-test.true c.index-pairs-place.is c.in_ok-is_such.ensures
    ∙ ap (λ x. x || is_kept_as (drop (c.places.place-index + 1) ms) c.args.form.now c.args.reply.now) c.if-branch.true)

pub places-preserved : goal.places-preserved
places-preserved c =
    let ms = marked replied_mark (with_reply (mark_of_form c.args.form.now) c.args.reply.now) c.args.pairs.now in
    c.places.invariant
    ∙ kept_next replied_mark (with_reply (mark_of_form c.args.form.now) c.args.reply.now) c.args.pairs.now c.args.places.now c.places.place-index c.requires c.index-pairs-place.result c.args.form.now c.args.reply.now c.in_ok-is_such.field-0
    c.places-test.true c.index-pairs-place.is c.in_ok-is_such.ensures
    ∙ ap (λ x. x || is_kept_as (drop (c.places.place-index + 1) ms) c.args.form.now c.args.reply.now) c.if-branch.false

pub returns : goal.returns
returns c = sym (c.places.invariant ∙ kept_end replied_mark (with_reply (mark_of_form c.args.form.now) c.args.reply.now) c.args.pairs.now c.args.places.now c.places.place-index c.requires c.args.form.now c.args.reply.now c.places-test.false)
