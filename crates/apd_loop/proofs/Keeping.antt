-- Each turn of the diagnosis keeps what is known, and its end follows from the replies.
use Rattle.std.proofs.Common.{◌≡◌, ◌⊎◌, inl, inr, ℕ, zero, suc, ◌+◌, ◌-◌, ◌/◌, ◌<◌, ◌≤◌, Bool, true, false, if◌then◌else◌, List, [], ◌∷◌, length, Option, Some, None, refl, sym, ◌∙◌, ap, subst, arith}
use Rattle.std.specs.Prelude.{nat_le, slice_get, IsSome}
use Rattle.std.specs.Option.{unwrap_or}
use Rattle.std.specs.List.{AllByRecursion}
use Rattle.apd_term.specs.Term.{Term}
use Rattle.apd_term.specs.Canonical.{canonical}
use Rattle.apd_term.specs.declared.tuple.Tuple.{Tuple}
use Rattle.apd_arith.specs.Builtins.{builtin_of_atom}
use Rattle.apd_record.specs.Recorded.{Recorded}
use Rattle.apd_record.specs.Sound.{IsSound}
use Rattle.apd_record.specs.Reading.{call_atom}
use Rattle.apd_answers.specs.declared.question.Question.TheVariants as asking
use Rattle.apd_answers.specs.declared.question.Reply.{Reply}
use Rattle.apd_answers.specs.declared.question.Reply.TheVariants.{Yes, No, Values, Unknown}
use Rattle.apd_answers.specs.Bugs.{earlier_atoms}
use Rattle.apd_answers.specs.Questions.{Fits}
use Rattle.apd_answers.specs.Store.{Store, decided, is_doubted, with_pair, SomePair, TellsNo, TellsBelow, SaysYes, SaysNo, SaysBelow}
use Rattle.apd_answers.specs.Dialogue.{Turn, asks, goes}
use Rattle.apd_answers.specs.Findings.{Apart, said, through, Affirms, AllDescendByReplies}
use Rattle.apd_divide.specs.declared.node.Strategy.{Strategy}
use Rattle.apd_divide.specs.declared.node.Verdict.TheVariants as verdicts
use Rattle.apd_term.specs.declared.instance.Instance.{Instance}
use Rattle.apd_divide.specs.Tree.{Tree, label, children, suspects, doubts_of}
use Rattle.apd_divide.specs.Choice.{Cut, choice, judged}
use Rattle.apd_divide.specs.Recorded.{tree}
use Rattle.apd_divide.proofs.Weights.{choice-none, choice-lowers, le_true, le_false}
use Rattle.apd_wrong.specs.Wrong.{verdict, asked_about, judged_by, found_with, is_passed, turn_about, turn_on, first_trusted}
use Rattle.apd_wrong.specs.Part.{IsPartOf}
use Rattle.apd_wrong.specs.Support.{IsWrongTree}
use Rattle.apd_wrong.proofs.Support.{wrong-decided, wrong-replied, wrong-doubted, wrong-trusted, wrong-found}
use Rattle.apd_wrong.proofs.Found.{passed-is, passed-doubted}
use Rattle.apd_wrong.proofs.Part.{part-judged, part-trusted, part-whole}
use Rattle.apd_wrong.proofs.Next.{fraction-left}
use Rattle.apd_wrong.proofs.Recorded.{tree-wrong}
use Rattle.apd_loop.specs.declared.LoopEnd.{LoopEnd}
use Rattle.apd_loop.specs.declared.LoopEnd.TheVariants.{Found, AllDescend}
use Rattle.apd_loop.specs.Loop.{Looping, whole, between, descending, rising, denied, within, Earlier, numbered, call_of, calls_in, earlier_goals, violation, below, by_yes, inside, turn_in, left_in}
use Rattle.apd_answers.specs.Fitting.{AllFit}
use Rattle.apd_loop.specs.Known.{IsChain, IsAmong, IsLeft, IsDenied, IsTreeOfDenied, Rises, IsWithin, IsSegment, DescendsAfter, IsSaid}
use Rattle.apd_loop.specs.Next.{IsViolationOrWrong, IsEndByReplies, ComesNext}
use Rattle.apd_answers.proofs.Fitted.{fit_added}
use Rattle.apd_loop.proofs.Order.{decided-order, added-order, SaysTruth, decided-says, added-says, Later, stayed, added, later, apart-later, grants-later, grants-canonical, all-map}
use Rattle.apd_loop.proofs.Callers.{callee-owned, caller-is_box, call-made, earlier-solved, earlier-left}
use Rattle.apd_loop.proofs.Driving.{Settles}

-- by a reply on the order of two calls
by_order : (P : List Tuple) (R : Recorded) (chain : List ℕ) (store : Store) (q p : Term) (s t : Looping) (r : Reply) → SomePair (TellsBelow r q p) store → Fits (asking.Below q p) r
    → (SaysBelow store q p → IsSaid P R chain store s) → (Apart store q p → IsSaid P R chain store t) → IsSaid P R chain store (by_yes s t r)
by_order P R chain store q p s t Yes o f h k = h o
by_order P R chain store q p s t No o f h k = k (said q p o)
by_order P R chain store q p s t (Values vs) o f h k = absurd f
by_order P R chain store q p s t Unknown o f h k = absurd f

-- by a reply on the truth of an atom
by_truth : (P : List Tuple) (R : Recorded) (chain : List ℕ) (store : Store) (a : Term) (s t : Looping) (r : Reply) → SaysTruth store a r
    → (SaysYes store a → IsSaid P R chain store s) → (SaysNo store a → IsSaid P R chain store t) → IsSaid P R chain store (by_yes s t r)
by_truth P R chain store a s t Yes o h k = h o
by_truth P R chain store a s t No o h k = k o
by_truth P R chain store a s t (Values vs) o h k = absurd o
by_truth P R chain store a s t Unknown o h k = absurd o

-- where neither reply leaves a number of suspects
none-left : (s t : Looping) (r : Reply) → left_in s ≡ None → left_in t ≡ None → left_in (by_yes s t r) ≡ None
none-left s t Yes h k = h
none-left s t No h k = k
none-left s t (Values vs) h k = k
none-left s t Unknown h k = k

-- where no suspects are counted
uncounted-known : {T : Type 0} → IsSome {T = ℕ} None → T
uncounted-known i = absurd (cc)

-- what a turn in a known state does
abbrev pub Keeps : List Tuple → Recorded → List ℕ → Strategy → Store → Turn Looping LoopEnd → Type 0
Keeps P R chain strategy store turn = Settles store (IsSaid P R chain store) (ComesNext P R chain strategy store) turn

-- a question about the order, after which the store says so
keeps_order : (P : List Tuple) (R : Recorded) (chain : List ℕ) (strategy : Strategy) (store : Store) (i j : ℕ) (s t : Looping) → AllFit store → left_in s ≡ None → left_in t ≡ None
    → ((kept : Store) → Later store kept → SaysBelow kept (call_of R chain i) (call_of R chain j) → IsSaid P R chain kept s)
    → ((kept : Store) → Later store kept → Apart kept (call_of R chain i) (call_of R chain j) → IsSaid P R chain kept t)
    → Keeps P R chain strategy store (asks (below R chain i j) (by_yes s t))
keeps_order P R chain strategy store i j s t fit u v h k = (
  λ none. record {
    undecided = none;
    unreplied = λ i. uncounted-known i;
    left = λ r fits. record {
      known = record {
        fit = fit_added store (asking.Below (call_of R chain i) (call_of R chain j)) r fit fits.0;
        said =
            (let kept = with_pair store (asking.Below (call_of R chain i) (call_of R chain j)) r in
            let l : Later store kept = added (asking.Below (call_of R chain i) (call_of R chain j)) r in
            by_order P R chain kept (call_of R chain i) (call_of R chain j) s t r (added-order store (call_of R chain i) (call_of R chain j) r) fits.0 (h kept l) (k kept l));
      };
      fewer = tt;
      uncounted = λ n. none-left s t r u v;
    };
  },
  λ r d.
      let o = decided-order store (call_of R chain i) (call_of R chain j) r fit d in
      by_order P R chain store (call_of R chain i) (call_of R chain j) s t r o.0 o.1 (h store stayed) (k store stayed),
)

-- a question whether an earlier goal is true
keeps_truth : (P : List Tuple) (R : Recorded) (chain : List ℕ) (strategy : Strategy) (store : Store) (a : Term) (s t : Looping) → AllFit store → left_in s ≡ None → left_in t ≡ None
    → ((kept : Store) → Later store kept → SaysYes kept a → IsSaid P R chain kept s)
    → ((kept : Store) → Later store kept → SaysNo kept a → IsSaid P R chain kept t)
    → Keeps P R chain strategy store (asks (record { question = asking.True a; suspects = None }) (by_yes s t))
keeps_truth P R chain strategy store a s t fit u v h k = (
  λ none. record {
    undecided = none;
    unreplied = λ i. uncounted-known i;
    left = λ r fits. record {
      known = record {
        fit = fit_added store (asking.True a) r fit fits.0;
        said =
            (let kept = with_pair store (asking.True a) r in
            let l : Later store kept = added (asking.True a) r in
            by_truth P R chain kept a s t r (added-says store a r fits) (h kept l) (k kept l));
      };
      fewer = tt;
      uncounted = λ n. none-left s t r u v;
    };
  },
  λ r d. by_truth P R chain store a s t r (decided-says store a r d) (h store stayed) (k store stayed),
)

all-among : (es : List Earlier) → AllByRecursion (IsAmong es) es
all-among [] = tt
all-among (e ∷ es) = (inl refl, all-map (IsAmong es) (IsAmong (e ∷ es)) (λ g h. inr h) es (all-among es))

-- calls beside each other of which the second isn't below the first
starts-rising : (P : List Tuple) (R : Recorded) (chain : List ℕ) (store : Store) (i : ℕ) → IsSound P R → IsChain R chain → 1 ≤ i → i < length chain
    → Apart store (call_of R chain (i + 1)) (call_of R chain i) → IsSaid P R chain store (rising i (earlier_goals R chain i))
starts-rising P R chain store i sound c from to a =
    let o = callee-owned R chain i c.owned from to in
    record {
      from = from;
      to = to;
      apart = a;
      earlier = earlier-left P R chain store i sound o;
      before = all-among (earlier_goals R chain i);
      solved = earlier-solved R chain i sound.kept o;
    }

-- an earlier goal is true
goal-true : (R : Recorded) (chain : List ℕ) (store kept : Store) (i : ℕ) (e : Earlier) (es : List Earlier) → Rises R chain store i (e ∷ es) → Later store kept → SaysYes kept e.atom → Rises R chain kept i es
goal-true R chain store kept i e es h l y = record {
  from = h.from;
  to = h.to;
  apart = apart-later store kept (call_of R chain (i + 1)) (call_of R chain i) l h.apart;
  earlier = all-map (λ a. Affirms store a ⊎ IsLeft (e ∷ es) a) (λ a. Affirms kept a ⊎ IsLeft es a) one (earlier_atoms R (numbered 0 chain (i + 1))) h.earlier;
  before = h.before.1;
  solved = h.solved.1;
}
  where
    one : (a : Term) → Affirms store a ⊎ IsLeft (e ∷ es) a → Affirms kept a ⊎ IsLeft es a
    one a (inl g) = inl (grants-later store kept a l g)
    one a (inr (inl f)) = inl (grants-canonical kept a (subst (λ z. builtin_of_atom z ≡ None) f h.solved.0.of_program) (subst (SaysYes kept) f y))
    one a (inr (inr o)) = inr o

-- an earlier goal isn't
goal-denied : (P : List Tuple) (R : Recorded) (chain : List ℕ) (store : Store) (e : Earlier) → IsSound P R → IsDenied R chain store e → IsWithin P R chain store (tree R e.exit e.atom) (tree R e.exit e.atom)
goal-denied P R chain store e sound d = record {
  wrong = tree-wrong P R store sound e.exit e.atom d.solved.labelled.exit d.solved.labelled.instance d.not_true;
  of_denied = record { goal = e; denied = d; tree_is = refl };
  part = part-whole (tree R e.exit e.atom);
}

-- the violation
granted-all : (R : Recorded) (store : Store) (atoms : List Term) → AllByRecursion (λ a. Affirms store a ⊎ IsLeft [] a) atoms → AllByRecursion (Affirms store) atoms
granted-all R store atoms h = all-map (λ a. Affirms store a ⊎ IsLeft [] a) (Affirms store) (λ a o. elim o [ inl g ↦ g | inr l ↦ absurd l ]) atoms h

rising-ends : (P : List Tuple) (R : Recorded) (chain : List ℕ) (store : Store) (i : ℕ) → IsChain R chain → Rises R chain store i [] → IsEndByReplies P R chain store (Found (violation R chain i))
rising-ends P R chain store i c h = (
  tt,
  record {
    call = call-made R chain i (caller-is_box R chain i c.owned h.from h.to) (callee-owned R chain i c.owned h.from h.to);
    earlier = granted-all R store (earlier_atoms R (numbered 0 chain (i + 1))) h.earlier;
    apart = h.apart;
  },
)

-- all calls descend
descend : (R : Recorded) (store : Store) (bs : List ℕ)
    → ((j a b : ℕ) → slice_get bs j ≡ Some a → slice_get bs (suc j) ≡ Some b → SaysBelow store (canonical (call_atom R b)) (canonical (call_atom R a)))
    → AllDescendByReplies store (calls_in R bs)
descend R store [] h = tt
descend R store (a ∷ []) h = tt
descend R store (a ∷ b ∷ bs) h = (h 0 a b refl refl, descend R store (b ∷ bs) (λ j x y e f. h (suc j) x y e f))

suc_one : (k : ℕ) → suc k + 1 ≡ suc (suc k)
suc_one k = omega arith

descending-ends : (P : List Tuple) (R : Recorded) (chain : List ℕ) (store : Store) → DescendsAfter R chain store 0 → IsEndByReplies P R chain store AllDescend
descending-ends P R chain store h = descend R store chain one
  where
    one : (j a b : ℕ) → slice_get chain j ≡ Some a → slice_get chain (suc j) ≡ Some b → SaysBelow store (canonical (call_atom R b)) (canonical (call_atom R a))
    one j a b e f =
        let l = Rattle.std.proofs.lemmas.Option.slice_get_within chain (suc j) b f in
        let s : SaysBelow store (call_of R chain (suc (suc j))) (call_of R chain (suc j)) =
        subst (λ n. SaysBelow store (call_of R chain n) (call_of R chain (suc j))) (suc_one j) (h.below (suc j) (omega arith) l) in
        let x : unwrap_or (slice_get chain j) 0 ≡ a = ap (λ o. unwrap_or o 0) e in
        let y : unwrap_or (slice_get chain (suc j)) 0 ≡ b = ap (λ o. unwrap_or o 0) f in
        subst (λ n. SaysBelow store (canonical (call_atom R n)) (canonical (call_atom R a))) y (subst (λ n. SaysBelow store (call_of R chain (suc (suc j))) (canonical (call_atom R n))) x s)

-- one more call descends
descends-more : (R : Recorded) (chain : List ℕ) (store kept : Store) (i : ℕ) → DescendsAfter R chain store (suc i) → Later store kept
    → SaysBelow kept (call_of R chain (suc i + 1)) (call_of R chain (suc i)) → DescendsAfter R chain kept i
descends-more R chain store kept i h l s = record { to = (let t = h.to in omega (arith, t)); below = λ j m n. by j m n (nat_le j (suc i)) refl }
  where
    by : (j : ℕ) → i < j → j < length chain → (b : Bool) → nat_le j (suc i) ≡ b → SaysBelow kept (call_of R chain (j + 1)) (call_of R chain j)
    by j m n true e =
        let f = le_true j (suc i) e in
        let g : suc i ≡ j = omega (arith, f, m) in
        subst (λ k. SaysBelow kept (call_of R chain (k + 1)) (call_of R chain k)) g s
    by j m n false e =
        let f = le_false j (suc i) e in
        later (TellsBelow Yes (call_of R chain (j + 1)) (call_of R chain j)) store kept l (h.below j (omega (arith, f)) n)

-- it goes on not to be true
denied-later : (R : Recorded) (chain : List ℕ) (store kept : Store) (e : Earlier) → Later store kept → IsDenied R chain store e → IsDenied R chain kept e
denied-later R chain store kept e l d =
    record { call = d.call; from = d.from; to = d.to; apart = apart-later store kept (call_of R chain (d.call + 1)) (call_of R chain d.call) l d.apart; before = d.before; solved = d.solved; not_true = later (TellsNo e.atom) store kept l d.not_true }

-- in a wrong tree
tree-later : (R : Recorded) (chain : List ℕ) (store kept : Store) (x : Tree) → Later store kept → IsTreeOfDenied R chain store x → IsTreeOfDenied R chain kept x
tree-later R chain store kept x l t = record { goal = t.goal; denied = denied-later R chain store kept t.goal l t.denied; tree_is = t.tree_is }

within-later : (P : List Tuple) (R : Recorded) (chain : List ℕ) (store kept : Store) (root x y : Tree) → IsWithin P R chain store root x → Later store kept
    → IsWrongTree P R kept y → IsPartOf root y → IsWithin P R chain kept root y
within-later P R chain store kept root x y w l t p = record { wrong = t; of_denied = tree-later R chain store kept root l w.of_denied; part = p }

-- what isn't passed over, although nothing decides it, isn't kept as unknown
unpassed : (store : Store) (a : Term) → is_passed store a ≡ false → decided store (asking.True a) ≡ None → is_doubted store a ≡ false
unpassed store a p d = sym (passed-is store a (is_doubted store a) d refl) ∙ p

keeps-asked : (P : List Tuple) (R : Recorded) (chain : List ℕ) (strategy : Strategy) (store : Store) (root x : Tree) (c : Cut) → choice strategy x ≡ Some c → is_passed store (label c.chosen) ≡ false
    → AllFit store → IsWithin P R chain store root x → Keeps P R chain strategy store (asks (asked_about x c) (λ r. within root (judged_by c r)))
keeps-asked P R chain strategy store root x c e p fit w = (
  λ none. record {
    undecided = none;
    unreplied = λ i. unpassed store (label c.chosen) p none;
    left = λ r fits.
        let kept = with_pair store (asking.True (label c.chosen)) r in
        let l : Later store kept = added (asking.True (label c.chosen)) r in
        record {
          known = record {
            fit = fit_added store (asking.True (label c.chosen)) r fit fits.0;
            said = within-later P R chain store kept root x (judged_by c r) w l (wrong-replied P R store strategy x c r e fits.0 w.wrong) (part-judged root strategy x c (verdict r) e w.part);
          };
          fewer = record {
            after = suspects (judged_by c r);
            left_is = refl;
            fewer = choice-lowers strategy x c (verdict r) e;
            whole = root;
            whole_is = refl;
            of_denied = tree-later R chain store kept root l w.of_denied;
            fraction = fraction-left P R strategy store root x c r w.wrong e w.part;
          };
          uncounted = λ n. absurd (cc);
        };
  },
  λ r d. within-later P R chain store store root x (judged_by c r) w stayed (wrong-decided P R store strategy x c r e d w.wrong) (part-judged root strategy x c (verdict r) e w.part),
)

found-kind : (x : Tree) (ds : List Instance) → IsViolationOrWrong (found_with x ds)
found-kind x [] = tt
found-kind x (d ∷ ds) = tt

keeps-within : (P : List Tuple) (R : Recorded) (chain : List ℕ) (strategy : Strategy) (store : Store) (root x : Tree) (t o : Option Cut) → first_trusted store x ≡ t → choice strategy x ≡ o
    → AllFit store → IsWithin P R chain store root x → Keeps P R chain strategy store (inside (within root) Found (turn_on store x t o))
keeps-within P R chain strategy store root x (Some c) o f e fit w =
    within-later P R chain store store root x (judged c verdicts.True) w stayed (wrong-trusted P R store x c f w.wrong) (part-trusted root store x c f w.part)
keeps-within P R chain strategy store root x None None f e fit w = (found-kind x (doubts_of (children x)), wrong-found P R store x (choice-none strategy x e) w.wrong)
keeps-within P R chain strategy store root x None (Some c) f e fit w = by (is_passed store (label c.chosen)) refl
  where
    by : (b : Bool) → is_passed store (label c.chosen) ≡ b → Keeps P R chain strategy store (inside (within root) Found (turn_about x c b))
    by true p =
        within-later P R chain store store root x (judged c verdicts.Unknown) w stayed (wrong-doubted P R store strategy x c e (passed-doubted store (label c.chosen) p) w.wrong)
        (part-judged root strategy x c verdicts.Unknown e w.part)
    by false p = keeps-asked P R chain strategy store root x c e p fit w

-- each turn
keeps-whole : (P : List Tuple) (R : Recorded) (chain : List ℕ) (strategy : Strategy) (store : Store) → IsChain R chain → AllFit store → Keeps P R chain strategy store (turn_in R chain strategy store whole)
keeps-whole P R chain strategy store c fit =
    let n = length chain in
    let m = c.several in
    keeps_order P R chain strategy store n 1 (descending (n - 1)) (between 1 n) fit refl refl
    (λ kept l s. record { to = omega (arith, m); below = λ j a b. absurd (omega (arith, a, b)) })
    (λ kept l a. record { from = omega arith; order = omega (arith, m); to = omega arith; apart = a })

keeps-between : (P : List Tuple) (R : Recorded) (chain : List ℕ) (strategy : Strategy) (store : Store) (low high : ℕ) → IsSound P R → IsChain R chain → AllFit store → IsSegment R chain store low high
    → Keeps P R chain strategy store (turn_in R chain strategy store (between low high))
keeps-between P R chain strategy store low high sound c fit h = by (nat_le (high - low) 1) refl
  where
    beside : high - low ≤ 1 → IsSaid P R chain store (rising low (earlier_goals R chain low))
    beside l =
        let o = h.order in
        let t = h.to in
        let e : high ≡ low + 1 = omega (arith, l, o) in
        starts-rising P R chain store low sound c h.from (omega (arith, o, t)) (subst (λ k. Apart store (call_of R chain k) (call_of R chain low)) e h.apart)

    halved : 1 < high - low → Keeps P R chain strategy store (let middle = low + (high - low) / 2 in asks (below R chain middle low) (by_yes (between middle high) (between low middle)))
    halved l =
        let middle = low + (high - low) / 2 in
        let f = h.from in
        let t = h.to in
        keeps_order P R chain strategy store middle low (between middle high) (between low middle) fit refl refl
        (λ kept later_is s. record {
          from = omega (arith, f);
          order = omega (arith, l);
          to = t;
          apart = through (call_of R chain high) (call_of R chain middle) (call_of R chain low) s (apart-later store kept (call_of R chain high) (call_of R chain low) later_is h.apart);
        })
        (λ kept later_is a. record { from = f; order = omega (arith, l); to = omega (arith, l, t); apart = a })

    by : (b : Bool) → nat_le (high - low) 1 ≡ b
        → Keeps P R chain strategy store
        (if b then goes (rising low (earlier_goals R chain low)) else (let middle = low + (high - low) / 2 in asks (below R chain middle low) (by_yes (between middle high) (between low middle))))
    by true e = beside (le_true (high - low) 1 e)
    by false e = halved (le_false (high - low) 1 e)

pub turn-keeps : (P : List Tuple) (R : Recorded) (chain : List ℕ) (strategy : Strategy) (store : Store) (s : Looping) → IsSound P R → IsChain R chain → AllFit store → IsSaid P R chain store s
    → Keeps P R chain strategy store (turn_in R chain strategy store s)
turn-keeps P R chain strategy store whole sound c fit h = keeps-whole P R chain strategy store c fit
turn-keeps P R chain strategy store (between low high) sound c fit h = keeps-between P R chain strategy store low high sound c fit h
turn-keeps P R chain strategy store (descending zero) sound c fit h = descending-ends P R chain store h
turn-keeps P R chain strategy store (descending (suc i)) sound c fit h =
    keeps_order P R chain strategy store (suc i + 1) (suc i) (descending i) (rising (suc i) (earlier_goals R chain (suc i))) fit refl refl
    (λ kept l s. descends-more R chain store kept i h l s)
    (λ kept l a. starts-rising P R chain kept (suc i) sound c (omega arith) h.to a)
turn-keeps P R chain strategy store (rising i []) sound c fit h = rising-ends P R chain store i c h
turn-keeps P R chain strategy store (rising i (e ∷ es)) sound c fit h =
    keeps_truth P R chain strategy store e.atom (rising i es) (denied e) fit refl refl
    (λ kept l y. goal-true R chain store kept i e es h l y)
    (λ kept l n. record { call = i; from = h.from; to = h.to; apart = apart-later store kept (call_of R chain (i + 1)) (call_of R chain i) l h.apart; before = h.before.0; solved = h.solved.0; not_true = n })
turn-keeps P R chain strategy store (denied e) sound c fit h = goal-denied P R chain store e sound h
turn-keeps P R chain strategy store (within root x) sound c fit h = keeps-within P R chain strategy store root x (first_trusted store x) (choice strategy x) refl refl fit h
