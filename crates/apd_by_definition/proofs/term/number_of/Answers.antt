use Rattle.std.proofs.Common.{◌∙◌, ap, sym}
use Rattle.apd_term.specs.Names.{same_text, number_of}
use Rattle.apd_term.proofs.Naming.{number_here, number_further}
use Rattle.apd_by_definition.proofs.term.number_of.Goals as goal

pub returns-then-eq : goal.returns-then-eq
returns-then-eq c =
    let text = c.args.text.now in
    let here = ap (same_text text) (sym (c.bytes.ensures ∙ c.index-texts-place.is)) ∙ sym c.eq.ensures ∙ c.if-eq.true in
    number_here c.as_slice-texts.result.now text c.loop-place.place c.index-texts-place.result c.loop-place-test.true here c.loop-place.invariant
    ∙ ap (λ ns. number_of ns text) c.as_slice-texts.ensures

pub loop-place-preserved : goal.loop-place-preserved
loop-place-preserved c =
    let text = c.args.text.now in
    let other = ap (same_text text) (sym (c.bytes.ensures ∙ c.index-texts-place.is)) ∙ sym c.eq.ensures ∙ c.if-eq.false in
    number_further c.as_slice-texts.result.now text c.loop-place.place c.index-texts-place.result c.loop-place-test.true other c.loop-place.invariant
