use Rattle.std.proofs.Common.{◌≡◌, ◌∙◌, ◌≤◌, ◌+◌, ap, arith, length, refl, List, ℕ}
use Rattle.apd_lines.proofs.Growing.{grows_to}
use Rattle.apd_term.proofs.FirstNames.{length-standard_names}
use Rattle.apd_term.specs.Growth.{GrowsBy}
use Rattle.apd_term.specs.StandardNames.{standard_names}
use Rattle.apd_text.specs.declared.log.Log.{Log}
use Rattle.apd_words.specs.Words.{bytes_of}
use Rattle.apd_session.specs.Known.{Outside, outside_by}
use Rattle.apd_session.proofs.Serving.{serves, serves_not}
use Rattle.apd_session.proofs.top.hold_session.Goals as goal

pub run_opening-requires-clause-few : goal.run_opening-requires-clause-few
run_opening-requires-clause-few g c =
    let e : length c.args.voice.now.log.names ≡ 132 = ap (λ (l : List (List ℕ)). length l) c.requires.names ∙ length-standard_names in
    let most : length c.open_for.new.voice.log.names ≤ length c.args.voice.now.log.names + 3145728 = grows_to _ _ _ c.open_for.ensures.grows in
    omega (arith, e, most)

pub run_opening-requires-clause-empty : goal.run_opening-requires-clause-empty
run_opening-requires-clause-empty g c = rw c.open_for.ensures.stays c.requires.empty

pub run_opening-requires-clause-ops : goal.run_opening-requires-clause-ops
run_opening-requires-clause-ops g c = rw c.open_for.ensures.stays c.requires.ops

pub returns-in-Ok-clause-session : goal.returns-in-Ok-clause-session
returns-in-Ok-clause-session g c =
    let p : Outside = outside_by g.F.Files g.S.Source c.args.files.now c.args.input.now c.args.voice.now in
    let q : Outside = outside_by g.F.Files g.S.Source c.open_for.new.files c.run_opening.new.input c.run_opening.new.voice in
    let grows : GrowsBy 3145728 standard_names c.open_for.new.voice.log.names = rw c.requires.names at c.open_for.ensures.grows in
    serves (bytes_of c.args.words.now) p q c.open_for.new.voice.log.names c.run_opening.new.voice.log grows c.in-Ok.opening c.run_opening.result c.in-Ok.ensures.opens c.in-Ok.ensures.faults
    (rw c.open_for.ensures.stays at c.run_opening.ensures.goes_on)

pub returns-in-Ok-clause-over : goal.returns-in-Ok-clause-over
returns-in-Ok-clause-over g c = rw c.open_for.ensures.stays at c.run_opening.ensures.over

pub returns-in-Err-clause-session : goal.returns-in-Err-clause-session
returns-in-Err-clause-session g c =
    let p : Outside = outside_by g.F.Files g.S.Source c.args.files.now c.args.input.now c.args.voice.now in
    let q : Outside = outside_by g.F.Files g.S.Source c.open_for.new.files c.args.input.now c.args.voice.now in
    let grows : GrowsBy 3145728 standard_names c.open_for.new.voice.log.names = rw c.requires.names at c.open_for.ensures.grows in
    let log : Log = record { names = c.open_for.new.voice.log.names; ops = c.args.voice.now.log.ops; entries = c.args.voice.now.log.entries } in
    rw c.open_for.ensures.stays (serves_not (bytes_of c.args.words.now) p q c.open_for.new.voice.log.names log grows c.in-Err.ensures.faults refl refl refl refl c.requires.empty c.requires.ops refl)

pub returns-in-Err-clause-over : goal.returns-in-Err-clause-over
returns-in-Err-clause-over g c = rw c.open_for.ensures.stays refl
