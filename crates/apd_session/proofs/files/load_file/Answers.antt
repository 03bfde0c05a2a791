use Rattle.std.proofs.Common.{◌∙◌}
use Rattle.apd_talk.proofs.Counting.{load_rose}
use Rattle.apd_session.proofs.LoadCounts.{load_counts}
use Rattle.apd_session.proofs.Making.{text_failed, text_long, text_told}
use Rattle.apd_session.proofs.files.load_file.Goals as goal

pub returns-in-Ok-clause-has : goal.returns-in-Ok-clause-has
returns-in-Ok-clause-has g c = text_told _ _ c.args.name.now c.in-Ok.text c.in-Ok.ensures.whole c.in-Ok.ensures.bound

pub returns-in-Err-Failed-clause-has : goal.returns-in-Err-Failed-clause-has
returns-in-Err-Failed-clause-has g c = text_failed _ _ c.args.name.now (load_rose _ _ c.in-Err-Failed.field-0 c.in-Err-Failed.ensures.cause c.in-Err-Failed.field-0-is)

pub returns-in-Err-Failed-clause-faults : goal.returns-in-Err-Failed-clause-faults
returns-in-Err-Failed-clause-faults g c = load_counts _ _ c.in-Err-Failed.field-0 c.in-Err-Failed.ensures.cause c.in-Err-Failed.field-0-is

pub returns-in-Err-TooLong-clause-has : goal.returns-in-Err-TooLong-clause-has
returns-in-Err-TooLong-clause-has g c =
    text_long _ _ c.args.name.now _ (c.in-Err-TooLong.ensures.long c.in-Err-TooLong.length c.in-Err-TooLong.field-0-is)
    (c.in-Err-TooLong.length-is ∙ c.in-Err-TooLong.ensures.number c.in-Err-TooLong.length c.in-Err-TooLong.field-0-is)
