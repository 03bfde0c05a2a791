use Rattle.apd_answers.specs.Oracle.{asking}
use Rattle.std.proofs.Common.{◌≡◌, Err, Ok, ◌∙◌, refl, sym, subst}
use Rattle.apd_answers.specs.declared.question.Asked.{Asked}
use Rattle.apd_answers.specs.declared.oracle.AskEnd.TheVariants.{Memory}
use Rattle.apd_answers.specs.Questions.{FitsAsked}
use Rattle.apd_answers.specs.Store.{with_pair}
use Rattle.apd_divide.specs.Kept.{tree_of, cut_of}
use Rattle.apd_divide.specs.Tree.{suspects}
use Rattle.apd_wrong.proofs.Judging.{by_error, about, decided_about, knows, judges_decided, judges_passed, turn_told, breaks_unasked, breaks_unanswered, breaks_unkept}
use Rattle.apd_wrong.proofs.diagnosis.judge_by.Goals as goal

pub returns-in_err-reply-clause-turn : goal.returns-in_err-reply-clause-turn
returns-in_err-reply-clause-turn g c = λ a here is d.
    by_error c.from_residual.result _ _ (λ e. e ≡ Memory) c.from_residual.ensures
    (λ e m. breaks_unasked c.args.strategy g.O.Oracle.step c.args.answers.now (tree_of c.args.state.now) c.args.oracle.now e m)

pub returns-in-Some-clause-turn : goal.returns-in-Some-clause-turn
returns-in-Some-clause-turn g c = λ a here is d.
    let k = knows c.args.strategy c.args.answers.now (tree_of c.args.state.now) (cut_of c.args.state.now c.args.node.0) a c.requires.trusted c.requires.chosen here in
    judges_decided c.args.strategy g.O.Oracle.step c.args.answers.now (tree_of c.args.state.now) (tree_of c.judge.new.self) c.args.oracle.now
    (cut_of c.args.state.now c.args.node.0) a c.in-Some.reply c.verdict.result k (decided_about c.args.answers.now c.args.asked.now a (suspects (tree_of c.args.state.now)) _ is (sym c.in_ok-reply.ensures ∙ c.in-Some.is)) c.verdict.ensures c.judge.ensures.judged

pub returns-then-doubted-clause-turn : goal.returns-then-doubted-clause-turn
returns-then-doubted-clause-turn g c = λ a here is d.
    let k = knows c.args.strategy c.args.answers.now (tree_of c.args.state.now) (cut_of c.args.state.now c.args.node.0) a c.requires.trusted c.requires.chosen here in
    judges_passed c.args.strategy g.O.Oracle.step c.args.answers.now (tree_of c.args.state.now) (tree_of c.judge-then-doubted.new.self) c.args.oracle.now
    (cut_of c.args.state.now c.args.node.0) a k (decided_about c.args.answers.now c.args.asked.now a (suspects (tree_of c.args.state.now)) _ is (sym c.in_ok-reply.ensures ∙ c.in_default.is)) (sym d ∙ c.if-doubted.true) c.judge-then-doubted.ensures.judged

pub returns-in_err-reply-2-clause-turn : goal.returns-in_err-reply-2-clause-turn
returns-in_err-reply-2-clause-turn g c = λ a here is d.
    let n = suspects (tree_of c.args.state.now) in
    let k = knows c.args.strategy c.args.answers.now (tree_of c.args.state.now) (cut_of c.args.state.now c.args.node.0) a c.requires.trusted c.requires.chosen here in
    by_error c.from_residual-in_err-reply-2.result _ _ (λ e. e ≡ c.in_err-reply-2.field-0.0) c.from_residual-in_err-reply-2.ensures
    (λ e m. breaks_unanswered c.args.strategy g.O.Oracle.step c.args.answers.now (tree_of c.args.state.now) c.args.oracle.now c.ask.new.self
    (cut_of c.args.state.now c.args.node.0) a n e k
    (record { undecided = decided_about c.args.answers.now c.args.asked.now a n _ is (sym c.in_ok-reply.ensures ∙ c.in_default.is); undoubted = sym d ∙ c.if-doubted.false }) refl
    (subst (λ z. g.O.Oracle.step c.args.oracle.now (asking (about a n) (Err z)) c.ask.new.self) (sym m)
    (subst (λ (x : Asked). g.O.Oracle.step c.args.oracle.now (asking x (Err c.in_err-reply-2.field-0.0)) c.ask.new.self) is c.in_err-reply-2.ensures.step)))

pub returns-in-Err-clause-turn : goal.returns-in-Err-clause-turn
returns-in-Err-clause-turn g c = λ a here is d.
    let n = suspects (tree_of c.args.state.now) in
    let k = knows c.args.strategy c.args.answers.now (tree_of c.args.state.now) (cut_of c.args.state.now c.args.node.0) a c.requires.trusted c.requires.chosen here in
    breaks_unkept c.args.strategy g.O.Oracle.step c.args.answers.now c.add.new.self (tree_of c.args.state.now) c.args.oracle.now c.ask.new.self
    (cut_of c.args.state.now c.args.node.0) a n c.in_ok-reply-2.reply Memory k
    (record { undecided = decided_about c.args.answers.now c.args.asked.now a n _ is (sym c.in_ok-reply.ensures ∙ c.in_default.is); undoubted = sym d ∙ c.if-doubted.false }) refl
    (subst (λ (x : Asked). FitsAsked x c.in_ok-reply-2.reply) is c.in_ok-reply-2.ensures.fits)
    (subst (λ (x : Asked). g.O.Oracle.step c.args.oracle.now (asking x (Ok c.in_ok-reply-2.reply)) c.ask.new.self) is c.in_ok-reply-2.ensures.step) c.in-Err.ensures.err refl

pub returns-in-Ok-clause-turn : goal.returns-in-Ok-clause-turn
returns-in-Ok-clause-turn g c = λ a here is d.
    let n = suspects (tree_of c.args.state.now) in
    let k = knows c.args.strategy c.args.answers.now (tree_of c.args.state.now) (cut_of c.args.state.now c.args.node.0) a c.requires.trusted c.requires.chosen here in
    turn_told c.args.strategy g.O.Oracle.step c.args.answers.now c.add.new.self (tree_of c.args.state.now) (tree_of c.judge-in-Ok.new.self) c.args.oracle.now c.ask.new.self c.told-told.new.self
    (cut_of c.args.state.now c.args.node.0) a n c.count.result c.in_ok-reply-2.reply c.verdict-in-Ok.result c.told-told.result k
    (record { undecided = decided_about c.args.answers.now c.args.asked.now a n _ is (sym c.in_ok-reply.ensures ∙ c.in_default.is); undoubted = sym d ∙ c.if-doubted.false }) refl
    (subst (λ (x : Asked). FitsAsked x c.in_ok-reply-2.reply) is c.in_ok-reply-2.ensures.fits)
    (subst (λ (x : Asked). c.add.new.self ≡ with_pair c.args.answers.now x.question c.in_ok-reply-2.reply) is c.in-Ok.ensures.ok)
    c.verdict-in-Ok.ensures c.judge-in-Ok.ensures.judged c.count.ensures
    (subst (λ (x : Asked). g.O.Oracle.step c.args.oracle.now (asking x (Ok c.in_ok-reply-2.reply)) c.ask.new.self) is c.in_ok-reply-2.ensures.step) c.told-told.ensures.step
