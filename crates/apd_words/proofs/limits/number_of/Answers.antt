use Rattle.std.proofs.Common.{◌≡◌, ◌∙◌, ap, subst, sym, true}
use Rattle.apd_words.specs.Words.{is_number, number_of}
use Rattle.apd_words.proofs.Digits.{number_read, parsed}
use Rattle.apd_words.proofs.limits.number_of.Goals as goal

pub returns-in-Err-clause-number : goal.returns-in-Err-clause-number
returns-in-Err-clause-number c =
    let number : is_number c.args.word.now ≡ true = ap is_number (sym c.as_bytes.ensures.value) ∙ sym c.is_number.ensures ∙ c.if-not-is_number.false in
    subst (λ r. number_read c.args.most r ≡ number_of c.args.most c.args.word.now) c.in-Err.is (parsed c.args.most c.args.word.now c.parse.result c.parse.ensures.value.0 number)
