-- How the diagnosis goes on by a question, and what a dialogue about a wrong answer is in it.
use Rattle.std.proofs.Common.{◌≡◌, ℕ, zero, suc, Bool, true, false, if◌then◌else◌, List, [], ◌∷◌, ◌++◌, Option, Some, None, Ok, Err, refl, sym, ◌∙◌, ap, subst}
use Rattle.apd_term.specs.Term.{Term}
use Rattle.apd_record.specs.Recorded.{Recorded}
use Rattle.apd_answers.specs.declared.question.Question.{Question}
use Rattle.apd_answers.specs.declared.question.Question.TheVariants as asking_of
use Rattle.apd_answers.specs.declared.question.Reply.{Reply}
use Rattle.apd_answers.specs.declared.question.Reply.TheVariants.{Yes, No, Values, Unknown}
use Rattle.apd_answers.specs.declared.question.Asked.{Asked}
use Rattle.apd_answers.specs.declared.finding.Finding.{Finding}
use Rattle.apd_answers.specs.declared.oracle.AskEnd.{AskEnd}
use Rattle.apd_answers.specs.declared.oracle.AskEnd.TheVariants.{Memory}
use Rattle.apd_answers.specs.Questions.{FitsAsked, is_yes}
use Rattle.apd_answers.specs.Store.{Store, decided, with_pair, SaysNo}
use Rattle.apd_answers.specs.Dialogue.{Turn, asks, goes, ends, unless_decided, settled, pursued, next_turn, Dialogue, onto, silent, replied, dialogue}
use Rattle.apd_answers.specs.Oracle.{Call, asking, telling}
use Rattle.apd_answers.specs.Going.{Moment, at, Goes, Reaches, Broken, unasked, unanswered, unkept, untold, Breaks}
use Rattle.apd_answers.proofs.Dialogue.{next_turn-asks}
use Rattle.apd_answers.proofs.Going.{Goes-decided, Goes-replied, Breaks-here}
use Rattle.apd_divide.specs.declared.node.Strategy.{Strategy}
use Rattle.apd_divide.specs.Tree.{Tree, suspects}
use Rattle.apd_wrong.specs.Wrong.{wrong}
use Rattle.apd_loop.specs.declared.LoopEnd.{LoopEnd}
use Rattle.apd_loop.specs.declared.LoopEnd.TheVariants.{Found}
use Rattle.apd_loop.specs.Loop.{Looping, within, by_yes, inside, left_in, loop}
use Rattle.apd_loop.specs.Turning.{IsAsked}
use Rattle.apd_loop.proofs.Falling.{loop-falls}
use Rattle.apd_loop.proofs.Order.{SaysTruth, added-says, decided-says}

abbrev pub put : Question → Asked
put question = record { question = question; suspects = None }

-- no suspects are told of
left-told : (R : Recorded) (chain : List ℕ) (strategy : Strategy) (question : Question) (state s t : Looping) (r : Reply) → IsAsked R chain strategy question state s t
    → left_in (by_yes s t r) ≡ None
left-told R chain strategy question state s t r a = by (is_yes r)
  where
    by : (b : Bool) → left_in (if b then s else t) ≡ None
    by true = a.left_by_yes
    by false = a.left_by_no

-- the store decides
pub turn_decided : {O : Type 0} (R : Recorded) (chain : List ℕ) (strategy : Strategy) (step : O → Call → O → Type 0) (question : Question) (state s t : Looping) (store : Store) (o : O) (r : Reply) (y : Bool)
    → IsAsked R chain strategy question state s t → decided store question ≡ Some r → y ≡ is_yes r
    → Goes (loop R chain strategy) step (at store state o) (at store (if y then s else t) o)
turn_decided R chain strategy step question state s t store o r y a d e =
    subst (λ b. Goes (loop R chain strategy) step (at store state o) (at store (if b then s else t) o)) (sym e)
    (Goes-decided (loop R chain strategy) step (loop-falls R chain strategy) store state o (put question) (by_yes s t) r (a.turn store) d)

next-is : (R : Recorded) (chain : List ℕ) (strategy : Strategy) (question : Question) (state s t : Looping) (store : Store) → IsAsked R chain strategy question state s t → decided store question ≡ None
    → next_turn (loop R chain strategy) store state ≡ asks (put question) (by_yes s t)
next-is R chain strategy question state s t store a n = next_turn-asks (loop R chain strategy) (loop-falls R chain strategy) store state (put question) (by_yes s t) (a.turn store) n

-- it breaks off
pub breaks_unasked : {O : Type 0} (R : Recorded) (chain : List ℕ) (strategy : Strategy) (step : O → Call → O → Type 0) (store : Store) (state : Looping) (o : O) (e : AskEnd) → e ≡ Memory
    → Breaks (loop R chain strategy) step (at store state o) store o e
breaks_unasked R chain strategy step store state o e m = Breaks-here (loop R chain strategy) step (at store state o) store o e [] (unasked m) refl

pub breaks_unanswered : {O : Type 0} (R : Recorded) (chain : List ℕ) (strategy : Strategy) (step : O → Call → O → Type 0) (question : Question) (state s t : Looping) (store : Store) (from to : O) (e : AskEnd)
    → IsAsked R chain strategy question state s t → decided store question ≡ None → step from (asking (put question) (Err e)) to
    → Breaks (loop R chain strategy) step (at store state from) store to e
breaks_unanswered R chain strategy step question state s t store from to e a n p =
    Breaks-here (loop R chain strategy) step (at store state from) store to e (asking (put question) (Err e) ∷ [])
    (unanswered (put question) (by_yes s t) (next-is R chain strategy question state s t store a n)) (to, p, refl)

pub breaks_unkept : {O : Type 0} (R : Recorded) (chain : List ℕ) (strategy : Strategy) (step : O → Call → O → Type 0) (question : Question) (state s t : Looping) (store : Store) (from to : O) (r : Reply) (e : AskEnd)
    → IsAsked R chain strategy question state s t → decided store question ≡ None → FitsAsked (put question) r → step from (asking (put question) (Ok r)) to → e ≡ Memory
    → Breaks (loop R chain strategy) step (at store state from) store to e
breaks_unkept R chain strategy step question state s t store from to r e a n f p m =
    Breaks-here (loop R chain strategy) step (at store state from) store to e (asking (put question) (Ok r) ∷ [])
    (unkept (put question) (by_yes s t) r (next-is R chain strategy question state s t store a n) f m) (to, p, refl)

-- the reply was asked for, kept and told
pub turn_replied : {O : Type 0} (R : Recorded) (chain : List ℕ) (strategy : Strategy) (step : O → Call → O → Type 0) (question : Question) (state s t : Looping) (store kept : Store) (from mid to : O) (r : Reply) (y : Bool)
    → IsAsked R chain strategy question state s t → decided store question ≡ None → FitsAsked (put question) r → kept ≡ with_pair store question r → y ≡ is_yes r
    → step from (asking (put question) (Ok r)) mid → step mid (telling r None (Ok tt)) to
    → Goes (loop R chain strategy) step (at store state from) (at kept (if y then s else t) to)
turn_replied R chain strategy step question state s t store kept from mid to r y a n f k e p q =
    let d = loop R chain strategy in
    let g : None ≡ left_in (by_yes s t r) = sym (left-told R chain strategy question state s t r a) in
    subst (λ z. Goes d step (at store state from) (at z (if y then s else t) to)) (sym k)
    (subst (λ b. Goes d step (at store state from) (at (with_pair store question r) (if b then s else t) to)) (sym e)
    (Goes-replied d step (loop-falls R chain strategy) store state from mid to (put question) (by_yes s t) r (a.turn store) n f p (subst (λ z. step mid (telling r z (Ok tt)) to) g q)))

pub breaks_untold : {O : Type 0} (R : Recorded) (chain : List ℕ) (strategy : Strategy) (step : O → Call → O → Type 0) (question : Question) (state s t : Looping) (store kept : Store) (from mid to : O) (r : Reply) (y : Bool) (end : AskEnd)
    → IsAsked R chain strategy question state s t → decided store question ≡ None → FitsAsked (put question) r → kept ≡ with_pair store question r → y ≡ is_yes r
    → step from (asking (put question) (Ok r)) mid → step mid (telling r None (Err end)) to
    → Breaks (loop R chain strategy) step (at store state from) kept to end
breaks_untold R chain strategy step question state s t store kept from mid to r y end a n f k e p q =
    let d = loop R chain strategy in
    let g : None ≡ left_in (by_yes s t r) = sym (left-told R chain strategy question state s t r a) in
    subst (λ z. Breaks d step (at store state from) z to end) (sym k)
    (Breaks-here d step (at store state from) (with_pair store question r) to end (asking (put question) (Ok r) ∷ telling r (left_in (by_yes s t r)) (Err end) ∷ [])
    (untold (put question) (by_yes s t) r (next-is R chain strategy question state s t store a n) f)
    (mid, p, (to, subst (λ z. step mid (telling r z (Err end)) to) g q, refl)))

-- what is asked, where no suspects are counted
pub put-is : (asked : Asked) → asked.suspects ≡ None → asked ≡ put asked.question
put-is asked none = let f : Option ℕ → Asked = λ n. record { question = asked.question; suspects = n } in ap f none

-- what No says
pub truth_no : (store : Store) (a : Term) (r : Reply) (y : Bool) → SaysTruth store a r → y ≡ is_yes r → y ≡ false → SaysNo store a
truth_no store a Yes y s e f = let g = sym e ∙ f in absurd (cc)
truth_no store a No y s e f = s
truth_no store a (Values vs) y s e f = absurd s
truth_no store a Unknown y s e f = absurd s

pub decided-no : (store : Store) (question : Question) (a : Term) (r : Reply) (y : Bool) → question ≡ asking_of.True a → decided store question ≡ Some r → y ≡ is_yes r → y ≡ false → SaysNo store a
decided-no store question a r y is d e f = truth_no store a r y (decided-says store a r (subst (λ q. decided store q ≡ Some r) is d)) e f

pub replied-no : (store kept : Store) (question : Question) (a : Term) (r : Reply) (y : Bool) → question ≡ asking_of.True a → FitsAsked (put question) r → kept ≡ with_pair store question r → y ≡ is_yes r → y ≡ false
    → SaysNo kept a
replied-no store kept question a r y is fits k e f =
    subst (λ z. SaysNo z a) (sym (k ∙ ap (λ q. with_pair store q r) is))
    (truth_no (with_pair store (asking_of.True a) r) a r y (added-says store a r (subst (λ q. FitsAsked (put q) r) is fits)) e f)

-- a wrong answer inside: the dialogue is the same
inside-settled : (root : Tree) (store : Store) (f : Looping → Turn Looping LoopEnd) (g : Tree → Turn Tree Finding) → ((x : Tree) → f (within root x) ≡ inside (within root) Found (g x)) → (turn : Turn Tree Finding)
    → settled store f (inside (within root) Found turn) ≡ inside (within root) Found (settled store g turn)
inside-settled root store f g h (asks asked next) = by (decided store asked.question)
  where
    by : (o : Option Reply) → unless_decided f asked (λ r. within root (next r)) o ≡ inside (within root) Found (unless_decided g asked next o)
    by None = refl
    by (Some r) = h (next r)
inside-settled root store f g h (goes x) = h x
inside-settled root store f g h (ends e) = refl

inside-pursued : (root : Tree) (R : Recorded) (chain : List ℕ) (strategy : Strategy) (store : Store) (k : ℕ) (x : Tree) → pursued (loop R chain strategy) store k (within root x) ≡ inside (within root) Found (pursued (wrong strategy) store k x)
inside-pursued root R chain strategy store zero x = refl
inside-pursued root R chain strategy store (suc k) x =
    inside-settled root store (pursued (loop R chain strategy) store k) (pursued (wrong strategy) store k) (inside-pursued root R chain strategy store k) ((wrong strategy).turn store x)

inside-next : (root : Tree) (R : Recorded) (chain : List ℕ) (strategy : Strategy) (store : Store) (x : Tree) → next_turn (loop R chain strategy) store (within root x) ≡ inside (within root) Found (next_turn (wrong strategy) store x)
inside-next root R chain strategy store x = inside-pursued root R chain strategy store (suspects x) x

abbrev inside_dialogue : Tree → Dialogue Tree Finding → Dialogue Looping LoopEnd
inside_dialogue root d = record { exchanges = d.exchanges; store = d.store; turn = inside (within root) Found d.turn }

inside-dialogue : (root : Tree) (R : Recorded) (chain : List ℕ) (strategy : Strategy) (replies : List Reply) (store : Store) (x : Tree) → dialogue (loop R chain strategy) replies store (within root x) ≡ inside_dialogue root (dialogue (wrong strategy) replies store x)
inside-dialogue root R chain strategy [] store x = ap (silent store) (inside-next root R chain strategy store x)
inside-dialogue root R chain strategy (r ∷ rs) store x =
    ap (replied (loop R chain strategy).left (dialogue (loop R chain strategy) rs) store r) (inside-next root R chain strategy store x)
    ∙ by (next_turn (wrong strategy) store x) (λ kept y. inside-dialogue root R chain strategy rs kept y)
  where
    by : (turn : Turn Tree Finding) → ((kept : Store) (y : Tree) → dialogue (loop R chain strategy) rs kept (within root y) ≡ inside_dialogue root (dialogue (wrong strategy) rs kept y))
        → replied (loop R chain strategy).left (dialogue (loop R chain strategy) rs) store r (inside (within root) Found turn) ≡ inside_dialogue root (replied (wrong strategy).left (dialogue (wrong strategy) rs) store r turn)
    by (asks asked next) h = ap (onto (record { asked = asked; reply = r; left = Some (suspects (next r)) } ∷ [])) (h (with_pair store asked.question r) (next r))
    by (goes y) h = refl
    by (ends e) h = refl

abbrev inside_moment : {O : Type 0} → Tree → Moment Tree O → Moment Looping O
inside_moment root p = at p.store (within root p.state) p.oracle

inside-goes : {O : Type 0} (root : Tree) (R : Recorded) (chain : List ℕ) (strategy : Strategy) (step : O → Call → O → Type 0) (p q : Moment Tree O) → Goes (wrong strategy) step p q → Goes (loop R chain strategy) step (inside_moment root p) (inside_moment root q)
inside-goes root R chain strategy step p q g = record {
  replies = g.replies;
  exchanges = g.exchanges;
  fit = g.fit;
  rest = λ more.
      inside-dialogue root R chain strategy (g.replies ++ more) p.store p.state ∙ ap (inside_dialogue root) (g.rest more)
      ∙ ap (onto g.exchanges) (sym (inside-dialogue root R chain strategy more q.store q.state));
  calls = g.calls;
}

pub inside-reaches : {O : Type 0} (root : Tree) (R : Recorded) (chain : List ℕ) (strategy : Strategy) (step : O → Call → O → Type 0) (store kept : Store) (x : Tree) (from to : O) (f : Finding)
    → Reaches (wrong strategy) step (at store x from) kept to f → Reaches (loop R chain strategy) step (at store (within root x) from) kept to (Found f)
inside-reaches root R chain strategy step store kept x from to f h = record {
  replies = h.replies;
  exchanges = h.exchanges;
  fit = h.fit;
  whole = inside-dialogue root R chain strategy h.replies store x ∙ ap (inside_dialogue root) h.whole;
  calls = h.calls;
}

inside-broken : (root : Tree) (R : Recorded) (chain : List ℕ) (strategy : Strategy) (turn : Turn Tree Finding) (before : Store) (end : AskEnd) (calls : List Call) (kept : Store) → Broken (wrong strategy).left turn before end calls kept
    → Broken (loop R chain strategy).left (inside (within root) Found turn) before end calls kept
inside-broken root R chain strategy turn before end _ _ (unasked m) = unasked m
inside-broken root R chain strategy turn before end _ _ (unanswered asked next e) = unanswered asked (λ r. within root (next r)) (ap (inside (within root) Found) e)
inside-broken root R chain strategy turn before end _ _ (unkept asked next r e f m) = unkept asked (λ z. within root (next z)) r (ap (inside (within root) Found) e) f m
inside-broken root R chain strategy turn before end _ _ (untold asked next r e f) = untold asked (λ z. within root (next z)) r (ap (inside (within root) Found) e) f

pub inside-breaks : {O : Type 0} (root : Tree) (R : Recorded) (chain : List ℕ) (strategy : Strategy) (step : O → Call → O → Type 0) (store kept : Store) (x : Tree) (from to : O) (e : AskEnd)
    → Breaks (wrong strategy) step (at store x from) kept to e → Breaks (loop R chain strategy) step (at store (within root x) from) kept to e
inside-breaks root R chain strategy step store kept x from to e b = record {
  last = inside_moment root b.last;
  goes = inside-goes root R chain strategy step (at store x from) b.last b.goes;
  calls = b.calls;
  broken =
      subst (λ turn. Broken (loop R chain strategy).left turn b.last.store e b.calls kept) (sym (inside-next root R chain strategy b.last.store b.last.state))
      (inside-broken root R chain strategy (next_turn (wrong strategy) b.last.store b.last.state) b.last.store e b.calls kept b.broken);
  through = b.through;
}

-- the question as the code has it
pub same_below : (a b x y : Term) → x ≡ a → y ≡ b → asking_of.Below a b ≡ asking_of.Below x y
same_below a b x y e f = ap (λ z. asking_of.Below z b) (sym e) ∙ ap (asking_of.Below x) (sym f)

pub same_true : (a x : Term) → x ≡ a → asking_of.True a ≡ asking_of.True x
same_true a x e = ap asking_of.True (sym e)

pub breaks-kept : {O : Type 0} (R : Recorded) (chain : List ℕ) (strategy : Strategy) (step : O → Call → O → Type 0) (store kept : Store) (state : Looping) (from to : O) (e : AskEnd) → kept ≡ store
    → Breaks (loop R chain strategy) step (at store state from) store to e → Breaks (loop R chain strategy) step (at store state from) kept to e
breaks-kept R chain strategy step store kept state from to e k b = subst (λ z. Breaks (loop R chain strategy) step (at store state from) z to e) (sym k) b
