use Rattle.std.proofs.Common.{◌∙◌, sym, ap, arith, drop, length, map, ◌+◌}
use Rattle.std.specs.List.{fold}
use Rattle.std.proofs.lemmas.List.{length-map, drop_all}
use Rattle.apd_term.specs.Names.{with_name}
use Rattle.apd_term.proofs.Naming.{length-with_name}
use Rattle.apd_term.proofs.NameTable.{next_text}
use Rattle.apd_term.proofs.FirstNames.{fold-standard_names, length-standard_names}
use Rattle.apd_term.proofs.names.standard_index.Goals as goal

pub intern-requires : goal.intern-requires
intern-requires c =
    let all = ap length c.texts-text-items.ensures in
    omega (arith, c.loop-text.invariant.few, all, length-standard_names, length-map c.texts-text-items.result.now (λ t. t.now))

pub loop-text-init : goal.loop-text-init
loop-text-init c =
    record {
      rest = rw (c.new-index.ensures, c.texts-text-items.ensures) fold-standard_names;
      few = rw c.new-index.ensures (omega arith);
    }

pub loop-text-preserved : goal.loop-text-preserved
loop-text-preserved c =
    let items = c.texts-text-items.result.now in
    let names = c.in_ok-intern.ensures.names in
    let next = next_text (λ t. t.now) c.loop-text.index items c.loop-text.text-index _ c.as_bytes.result.now c.loop-text-test.true c.as_bytes.ensures.value in
    record {
      rest = ap (λ ns. fold with_name ns (map (λ t. t.now) (drop (c.loop-text.text-index + 1) items))) names ∙ next ∙ c.loop-text.invariant.rest;
      few = omega (arith, ap length names, length-with_name c.loop-text.index c.as_bytes.result.now, c.loop-text.invariant.few);
    }

pub returns : goal.returns
returns c =
    let e = drop_all c.loop-text.text-index c.texts-text-items.result.now c.loop-text-test.false in
    let r = c.loop-text.invariant.rest in
    ap (λ ts. fold with_name c.loop-text.index (map (λ t. t.now) ts)) (sym e) ∙ r
