use Rattle.std.proofs.Common.{ℕ, ap, sym, subst, ◌∙◌}
use Rattle.apd_oracle.specs.Dialogue.{SaysReply}
use Rattle.apd_talk.specs.Speech.{Spoken, bare, said}
use Rattle.apd_oracle.proofs.Bare.{SaysReply-bare}
use Rattle.apd_oracle.proofs.lending.tell_over.Goals as goal

pub returns : goal.returns
returns g c =
    let names = sym (ap (λ (s : Spoken). s.over) c.voice.view_is ∙ c.tell_reply-answer.ensures.stays.over) in
    rw (c.log-1.given.1 (ap (λ (n : ℕ × ℕ). n.0) names), c.out-1.given.1 (ap (λ (n : ℕ × ℕ). n.1) names))
    (subst (λ (s : Spoken). SaysReply c.args.by_reference c.args.reply.now c.args.left (said g.K.Sink c.args.log.now c.args.out.now) (bare s) c.tell_reply-answer.result) (sym c.voice.view_is)
    (SaysReply-bare c.args.by_reference c.args.reply.now c.args.left _ c.tell_reply-answer.new.voice c.tell_reply-answer.result c.tell_reply-answer.ensures))
