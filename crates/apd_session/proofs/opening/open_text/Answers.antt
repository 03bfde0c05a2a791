use Rattle.std.proofs.Common.{◌≡◌, ◌∙◌, ◌≤◌, ◌+◌, ap, arith, length, List, ℕ, Err}
use Rattle.apd_lines.proofs.Growing.{Grown-more, grows_to}
use Rattle.apd_load.proofs.Making.{only}
use Rattle.apd_term.proofs.FirstNames.{length-standard_names}
use Rattle.apd_read.proofs.Growing.{grown_both}
use Rattle.apd_words.specs.Words.{asked_options}
use Rattle.apd_session.proofs.Loading.{grew_by, grew_first}
use Rattle.apd_session.proofs.Making.{opens_loaded, opens_refused}
use Rattle.apd_session.proofs.opening.open_text.Goals as goal

pub load-requires-clause-room : goal.load-requires-clause-room
load-requires-clause-room g c =
    let e : length c.args.names.now ≡ 132 = ap (λ (l : List (List ℕ)). length l) c.requires.names ∙ length-standard_names in
    let size = c.requires.size in
    rw c.bytes.ensures (omega (arith, e, size))

pub open_program-requires-clause-room : goal.open_program-requires-clause-room
open_program-requires-clause-room g c =
    let e : length c.args.names.now ≡ 132 = ap (λ (l : List (List ℕ)). length l) c.requires.names ∙ length-standard_names in
    let size = c.requires.size in
    let most : length c.load.new.names ≤ length c.args.names.now + 1048576 = grows_to _ _ _ (grew_first _ _ _ _ c.requires.size c.bytes.ensures c.load.ensures.grows) in
    omega (arith, e, most)

pub returns-in-Ok-clause-grows : goal.returns-in-Ok-clause-grows
returns-in-Ok-clause-grows g c =
    grown_both c.args.names.now c.load.new.names c.open_program.new.names 1048576 2097152 (grew_first _ _ _ _ c.requires.size c.bytes.ensures c.load.ensures.grows) c.open_program.ensures.grows

pub returns-in-Ok-clause-opens : goal.returns-in-Ok-clause-opens
returns-in-Ok-clause-opens g c =
    opens_loaded _ _ (asked_options c.args.asked) c.args.text.now c.bytes.result.now c.in-Ok.loaded c.load.new.names c.open_program.new.names c.open_program.result c.open_program.ensures.opens c.bytes.ensures
    (λ n grew reader. only n reader _ _ (c.in-Ok.ensures.loaded n grew)) (λ n grew. Grown-more c.load.new.names c.open_program.new.names n (grew_by _ _ _ c.open_program.ensures.grows) grew)

pub returns-in-Err-Refused-clause-opens : goal.returns-in-Err-Refused-clause-opens
returns-in-Err-Refused-clause-opens g c =
    rw (c.in-Err-Refused.line-is, c.in-Err-Refused.cause-is)
    (opens_refused _ _ (asked_options c.args.asked) c.args.text.now c.bytes.result.now c.in-Err-Refused.line c.in-Err-Refused.cause c.load.new.names c.bytes.ensures
    (λ n grew reader. only n reader _ _ (c.load.ensures.refused c.in-Err-Refused.line c.in-Err-Refused.cause (c.in-Err-Refused.is ∙ ap Err c.in-Err-Refused.field-0-is) n grew)))
