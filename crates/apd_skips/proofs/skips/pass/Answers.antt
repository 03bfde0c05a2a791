use Rattle.std.proofs.Common.{◌<◌, get_or, length, arith}
use Rattle.std.proofs.lemmas.Option.{slice_get-get_or}
use Rattle.apd_skips.proofs.Skipping.{passed-all, passed-behind, passed-more}
use Rattle.apd_skips.specs.declared.skips.Skip.{Skip}
use Rattle.apd_skips.proofs.skips.pass.Goals as goal

pub returns-then-end-symbols : goal.returns-then-end-symbols
returns-then-end-symbols c = passed-all c.args.symbols.now c.args.from c.terms._k c.args.count c.terms.end (omega arith) (omega arith) c.terms.invariant

pub terms-preserved : goal.terms-preserved
terms-preserved c =
    let none : Skip = record { end = 0; equal = 0 } in
    let skip : Skip = get_or c.args.skips.now c.terms.end none in
    let l : c.terms.end < length c.args.skips.now = omega arith in
    let k = c.requires.skips c.terms.end skip (passed-behind c.args.symbols.now c.args.from c.terms._k c.terms.end c.terms.invariant) (slice_get-get_or c.args.skips.now c.terms.end none l) in
    passed-more c.args.symbols.now c.args.from c.terms._k c.terms.end c.requires.whole (omega arith) c.terms.invariant skip.end k.ends
