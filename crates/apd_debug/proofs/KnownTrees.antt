-- The diagnosis of a wrong answer asks about labels of its tree, and finds instances of it.
use Rattle.std.proofs.Common.{◌≡◌, ℕ, Bool, true, false, List, [], ◌∷◌, Option, Some, None, arith, subst, refl}
use Rattle.apd_answers.specs.declared.question.Reply.{Reply}
use Rattle.apd_answers.specs.declared.finding.Finding.{Finding}
use Rattle.apd_answers.specs.Dialogue.{Turn, asks, goes, ends}
use Rattle.apd_answers.specs.Store.{Store}
use Rattle.apd_answers.specs.Trust.{is_trusted}
use Rattle.apd_divide.specs.declared.node.Strategy.{Strategy}
use Rattle.apd_divide.specs.declared.node.Verdict.TheVariants as verdicts
use Rattle.apd_divide.specs.Choice.{Cut, choice, to_such, way_of}
use Rattle.apd_divide.specs.Tree.{Tree, node, children, doubts_of, instance, label, suspects}
use Rattle.apd_known.specs.Pairs.{MayAsk}
use Rattle.apd_term.specs.Named.{TupleIsNamed}
use Rattle.apd_term.specs.declared.instance.Instance.{Instance}
use Rattle.apd_term.specs.declared.tuple.Tuple.{Tuple}
use Rattle.apd_text.specs.declared.entry.Entry.TheVariants.{Found}
use Rattle.apd_text.specs.Named.{FindingIsNamed, QuestionIsNamed}
use Rattle.apd_wrong.specs.Wrong.{first_trusted, found_with, is_passed, turn_about, turn_by, turn_on, verdict, wrong}
use Rattle.apd_debug.specs.NamedTrees.{HasOwnHead, HasOwnLabels, HoldsInTree, InstancesAreNamed, IsKnownTree, TreeIsNamed}
use Rattle.apd_debug.specs.Known.{KeepsNamed}
use Rattle.apd_debug.proofs.NamedTrees.{ForestIsNamed, HoldsInCut, TreeIsNamed-more, cut-holds, doubts_of-named, judged-holds}

-- what holds in a tree holds at its root
at_root : (Q : Tuple → Type 0) (x : Tree) → HoldsInTree Q x → Q (instance x)
at_root Q (node s c t ts) holds = holds.0

-- what a turn asks about, leads to and finds is named
abbrev pub TurnIsNamed : ℕ → Turn Tree Finding → Type 0
TurnIsNamed n (asks asked next) = QuestionIsNamed n asked.question × ((r : Reply) → TreeIsNamed n (next r))
TurnIsNamed n (goes t) = TreeIsNamed n t
TurnIsNamed n (ends f) = FindingIsNamed n f

-- what is found where no suspect is left
found-named : (n : ℕ) (x : Tree) (ds : List Instance) → TreeIsNamed n x → InstancesAreNamed n ds → FindingIsNamed n (found_with x ds)
found-named n x [] named below = at_root (TupleIsNamed n) x named
found-named n x (d ∷ ds) named below = (at_root (TupleIsNamed n) x named, below)

children-named : (n : ℕ) (x : Tree) → TreeIsNamed n x → ForestIsNamed n (children x)
children-named n (node s c t ts) named = named.1

about-named : (n : ℕ) (x : Tree) (c : Cut) (passed : Bool) → HoldsInCut (TupleIsNamed n) c → TurnIsNamed n (turn_about x c passed)
about-named n x c true parts = judged-holds (TupleIsNamed n) c verdicts.Unknown parts
about-named n x c false parts = ((at_root (TupleIsNamed n) c.chosen parts.0).0, λ r. judged-holds (TupleIsNamed n) c (verdict r) parts)

pub turn-named : (n : ℕ) (strategy : Strategy) (store : Store) (x : Tree) → TreeIsNamed n x → TurnIsNamed n ((wrong strategy).turn store x)
turn-named n strategy store x named = on (first_trusted store x) refl
  where
    by : (o : Option Cut) → choice strategy x ≡ o → TurnIsNamed n (turn_by store x o)
    by None is = found-named n x (doubts_of (children x)) named (doubts_of-named n (children x) (children-named n x named))
    by (Some c) is = about-named n x c (is_passed store (label c.chosen)) (cut-holds (TupleIsNamed n) (way_of strategy (suspects x)) x c is named)

    on : (o : Option Cut) → first_trusted store x ≡ o → TurnIsNamed n (turn_on store x o (choice strategy x))
    on None is = by (choice strategy x) refl
    on (Some c) is = judged-holds (TupleIsNamed n) c verdicts.True (cut-holds (TupleIsNamed n) (to_such (is_trusted store.trusted)) x c is named)

-- what a turn asks may be asked, and so where it leads to
abbrev pub TurnIsOwn : Turn Tree Finding → Type 0
TurnIsOwn (asks asked next) = MayAsk asked.question × ((r : Reply) → HasOwnLabels (next r))
TurnIsOwn (goes t) = HasOwnLabels t
TurnIsOwn (ends f) = Unit {0}

about-own : (x : Tree) (c : Cut) (passed : Bool) → HoldsInCut HasOwnHead c → TurnIsOwn (turn_about x c passed)
about-own x c true parts = judged-holds HasOwnHead c verdicts.Unknown parts
about-own x c false parts = (at_root HasOwnHead c.chosen parts.0, λ r. judged-holds HasOwnHead c (verdict r) parts)

pub turn-own : (strategy : Strategy) (store : Store) (x : Tree) → HasOwnLabels x → TurnIsOwn ((wrong strategy).turn store x)
turn-own strategy store x own = on (first_trusted store x) refl
  where
    by : (o : Option Cut) → choice strategy x ≡ o → TurnIsOwn (turn_by store x o)
    by None is = tt
    by (Some c) is = about-own x c (is_passed store (label c.chosen)) (cut-holds HasOwnHead (way_of strategy (suspects x)) x c is own)

    on : (o : Option Cut) → first_trusted store x ≡ o → TurnIsOwn (turn_on store x o (choice strategy x))
    on None is = by (choice strategy x) refl
    on (Some c) is = judged-holds HasOwnHead c verdicts.True (cut-holds HasOwnHead (to_such (is_trusted store.trusted)) x c is own)

module _ (strategy : Strategy) (n : ℕ) (store : Store) (x : Tree) (turn : Turn Tree Finding) (is : (wrong strategy).turn store x ≡ turn) (known : IsKnownTree n store x) where
  named_so : TurnIsNamed n turn
  named_so = subst (TurnIsNamed n) is (turn-named n strategy store x known.named)

  own_so : TurnIsOwn turn
  own_so = subst TurnIsOwn is (turn-own strategy store x known.own)

tree_known : (n : ℕ) (store others : Store) (x y : Tree) → IsKnownTree n store x → TreeIsNamed n y → HasOwnLabels y → IsKnownTree n others y
tree_known n store others x y known named own = record { standard = known.standard; named = named; own = own }

pub wrong-keeps : (strategy : Strategy) (line_of : Finding → ℕ) → KeepsNamed (wrong strategy) (λ f. Found f (line_of f)) IsKnownTree
wrong-keeps strategy line_of = record {
  more = λ n m store x less known. record { standard = let standard = known.standard in omega (arith, less, standard); named = TreeIsNamed-more n m x less known.named; own = known.own };
  question = λ n store x asked next is known. (named_so strategy n store x (asks asked next) is known).0;
  may_ask = λ n store x asked next is known. (own_so strategy n store x (asks asked next) is known).0;
  kept = λ n store x asked next r is o known. tree_known n store store x (next r) known ((named_so strategy n store x (asks asked next) is known).1 r) ((own_so strategy n store x (asks asked next) is known).1 r);
  replied = λ n store x asked next r is fits named known. tree_known n store _ x (next r) known ((named_so strategy n store x (asks asked next) is known).1 r) ((own_so strategy n store x (asks asked next) is known).1 r);
  going = λ n store x t is known. tree_known n store store x t known (named_so strategy n store x (goes t) is known) (own_so strategy n store x (goes t) is known);
  finding = λ n store x f is known. (known.standard, named_so strategy n store x (ends f) is known);
}
