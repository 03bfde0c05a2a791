use Rattle.std.proofs.Common.{◌∙◌}
use Rattle.apd_read.proofs.Decoding.{chars_none, chars_first}
use Rattle.apd_read.proofs.codes.codes.Goals as goal

pub returns-in-empty : goal.returns-in-empty
returns-in-empty c = c.new.ensures ∙ chars_none c.args.bytes.now c.in-empty.len_below

pub returns-in_ok-codes-in-len1-up : goal.returns-in_ok-codes-in-len1-up
returns-in_ok-codes-in-len1-up c =
    c.in_ok-codes-in-len1-up.ensures ∙ rw (c.continuation_len.ensures.count, c.lead_bits.ensures.bits) (chars_first c.args.bytes.now c.in-len1-up.len_at_least)
