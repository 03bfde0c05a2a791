use Rattle.std.proofs.Common.{◌∷◌, ◌∙◌, refl, sym, subst, ap, Some}
use Rattle.apd_clauses.specs.Clauses.{tuples_of}
use Rattle.apd_engine.specs.declared.search.Choice.TheVariants.{Alternatives, Again, Closing, Over}
use Rattle.apd_engine.specs.declared.search.Mode.TheVariants.{Back}
use Rattle.apd_engine.specs.Search.{Gives, GivesAlways, GivesBy, GivesOrEnds, Standing, coming_back, in_mode, stand}
use Rattle.apd_engine.proofs.Telling.{grows_same, held_same, tells_weaker}
use Rattle.apd_engine.proofs.search.Search.back.Goals as goal

pub returns-in_ok-given-in-Some-Alternatives-clause-told : goal.returns-in_ok-given-in-Some-Alternatives-clause-told
returns-in_ok-given-in-Some-Alternatives-clause-told c =
    let s = stand c.args.self.now in
    let P = tuples_of c.args.program.now in
    let popped : Standing = record { frames = s.frames; mode = s.mode; stack = c.pop.new.stack; boxes = s.boxes; points = s.points } in
    tells_weaker (record { tuples = c.retry.new.self.frames.tuples; held = c.retry.new.held }) c.args.unread c.in_ok-given-in-Some-Alternatives.given (GivesBy P (coming_back (Alternatives c.in-Some-Alternatives.box_no c.in-Some-Alternatives.next) popped) (stand c.retry.new.self)) (λ i. GivesOrEnds P (in_mode Back s) (stand c.retry.new.self) (Some i))
    (λ i gives. subst (λ cs. Gives P Back s.frames cs s.boxes s.points i (stand c.retry.new.self)) (sym (c.in-Some-Alternatives.ensures ∙ ap (λ x. x ∷ c.pop.new.stack) c.in-Some-Alternatives.field-0-is)) gives)
    c.in_ok-given-in-Some-Alternatives.ensures.told

pub returns-in_ok-again-in-Some-Again-clause-told : goal.returns-in_ok-again-in-Some-Again-clause-told
returns-in_ok-again-in-Some-Again-clause-told c =
    let s = stand c.args.self.now in
    let P = tuples_of c.args.program.now in
    let popped : Standing = record { frames = s.frames; mode = s.mode; stack = c.pop.new.stack; boxes = s.boxes; points = s.points } in
    tells_weaker (record { tuples = c.again.new.self.frames.tuples; held = c.args.held.now }) c.args.unread c.in_ok-again-in-Some-Again.field-0 (GivesAlways (coming_back Again popped) (stand c.again.new.self)) (λ i. GivesOrEnds P (in_mode Back s) (stand c.again.new.self) (Some i))
    (λ i gives. subst (λ cs. Gives P Back s.frames cs s.boxes s.points i (stand c.again.new.self)) (sym (c.in-Some-Again.ensures ∙ ap (λ x. x ∷ c.pop.new.stack) c.in-Some-Again.field-0-is)) (gives P))
    (c.in_ok-again-in-Some-Again.ensures.told (record { tuples = c.again.new.self.frames.tuples; held = c.args.held.now }))

pub returns-in_ok-close-in-Some-Closing-clause-told : goal.returns-in_ok-close-in-Some-Closing-clause-told
returns-in_ok-close-in-Some-Closing-clause-told c =
    let s = stand c.args.self.now in
    let P = tuples_of c.args.program.now in
    let popped : Standing = record { frames = s.frames; mode = s.mode; stack = c.pop.new.stack; boxes = s.boxes; points = s.points } in
    tells_weaker (record { tuples = c.close.new.self.frames.tuples; held = c.args.held.now }) c.args.unread c.in_ok-close-in-Some-Closing.field-0 (GivesAlways (coming_back (Closing c.in-Some-Closing.box_no) popped) (stand c.close.new.self)) (λ i. GivesOrEnds P (in_mode Back s) (stand c.close.new.self) (Some i))
    (λ i gives. subst (λ cs. Gives P Back s.frames cs s.boxes s.points i (stand c.close.new.self)) (sym (c.in-Some-Closing.ensures ∙ ap (λ x. x ∷ c.pop.new.stack) c.in-Some-Closing.field-0-is)) (gives P))
    (c.in_ok-close-in-Some-Closing.ensures.told (record { tuples = c.close.new.self.frames.tuples; held = c.args.held.now }))

pub returns-in_ok-redo-in-Some-Over-clause-told : goal.returns-in_ok-redo-in-Some-Over-clause-told
returns-in_ok-redo-in-Some-Over-clause-told c =
    let s = stand c.args.self.now in
    let P = tuples_of c.args.program.now in
    let popped : Standing = record { frames = s.frames; mode = s.mode; stack = c.pop.new.stack; boxes = s.boxes; points = s.points } in
    tells_weaker (record { tuples = c.redo.new.self.frames.tuples; held = c.args.held.now }) c.args.unread c.in_ok-redo-in-Some-Over.field-0 (GivesAlways (coming_back (Over c.in-Some-Over.box_no) popped) (stand c.redo.new.self)) (λ i. GivesOrEnds P (in_mode Back s) (stand c.redo.new.self) (Some i))
    (λ i gives. subst (λ cs. Gives P Back s.frames cs s.boxes s.points i (stand c.redo.new.self)) (sym (c.in-Some-Over.ensures ∙ ap (λ x. x ∷ c.pop.new.stack) c.in-Some-Over.field-0-is)) (gives P))
    (c.in_ok-redo-in-Some-Over.ensures.told (record { tuples = c.redo.new.self.frames.tuples; held = c.args.held.now }))

pub returns-in_ok-again-in-Some-Again-clause-more : goal.returns-in_ok-again-in-Some-Again-clause-more
returns-in_ok-again-in-Some-Again-clause-more c = grows_same c.in_ok-again-in-Some-Again.ensures.tuples

pub returns-in_ok-close-in-Some-Closing-clause-more : goal.returns-in_ok-close-in-Some-Closing-clause-more
returns-in_ok-close-in-Some-Closing-clause-more c = grows_same c.in_ok-close-in-Some-Closing.ensures.tuples

pub returns-in_ok-redo-in-Some-Over-clause-more : goal.returns-in_ok-redo-in-Some-Over-clause-more
returns-in_ok-redo-in-Some-Over-clause-more c = grows_same c.in_ok-redo-in-Some-Over.ensures.tuples

pub returns-in_ok-again-in-Some-Again-clause-held : goal.returns-in_ok-again-in-Some-Again-clause-held
returns-in_ok-again-in-Some-Again-clause-held c = held_same c.in_ok-again-in-Some-Again.field-0 refl

pub returns-in_ok-close-in-Some-Closing-clause-held : goal.returns-in_ok-close-in-Some-Closing-clause-held
returns-in_ok-close-in-Some-Closing-clause-held c = held_same c.in_ok-close-in-Some-Closing.field-0 refl

pub returns-in_ok-redo-in-Some-Over-clause-held : goal.returns-in_ok-redo-in-Some-Over-clause-held
returns-in_ok-redo-in-Some-Over-clause-held c = held_same c.in_ok-redo-in-Some-Over.field-0 refl
