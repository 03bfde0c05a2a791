-- One turn of the diagnosis of a wrong answer.
use Rattle.std.specs.Prelude.{◌≡◌, ◌<◌, Bool, true, false, List, None, Result, MatchResult}
use Rattle.apd_term.specs.declared.tuple.Tuple.{Tuple}
use Rattle.apd_answers.specs.declared.finding.Finding.{Finding}
use Rattle.apd_answers.specs.declared.oracle.AskEnd.{AskEnd}
use Rattle.apd_record.specs.Recorded.{Recorded}
use Rattle.apd_answers.specs.Store.{Store}
use Rattle.apd_answers.specs.Going.{Moment, Goes, Reaches, Breaks}
use Rattle.apd_answers.specs.Oracle.{Call}
use Rattle.apd_divide.specs.declared.node.Strategy.{Strategy}
use Rattle.apd_divide.specs.Tree.{Tree, suspects}
use Rattle.apd_divide.specs.Choice.{choice}
use Rattle.apd_wrong.specs.Wrong.{wrong, first_trusted}
use Rattle.apd_wrong.specs.Support.{IsWrongTree}

-- the dialogue went on, fewer suspects are left, none of them trusted, and the tree is still one whose label isn't true by the
-- store
pub record Judges {O : Type 0} (strategy : Strategy) (step : O → Call → O → Type 0) (p q : Moment Tree O) : Type 0 where
  pub goes : Goes (wrong strategy) step p q
  pub fewer : suspects q.state < suspects p.state
  pub trusted : first_trusted q.store q.state ≡ None
  pub stays : (P : List Tuple) (R : Recorded) → IsWrongTree P R p.store p.state → IsWrongTree P R q.store q.state

-- the dialogue went on, and the tree is still one whose label isn't true by the store
pub record Goes_on {O : Type 0} (strategy : Strategy) (step : O → Call → O → Type 0) (p q : Moment Tree O) : Type 0 where
  pub goes : Goes (wrong strategy) step p q
  pub stays : (P : List Tuple) (R : Recorded) → IsWrongTree P R p.store p.state → IsWrongTree P R q.store q.state

-- nothing is left to judge
pub record IsOver (strategy : Strategy) (store : Store) (x : Tree) : Type 0 where
  pub trusted : first_trusted store x ≡ None
  pub none : choice strategy x ≡ None

-- a suspect was judged, or nothing was left to judge
abbrev pub Turns : {O : Type 0} → Strategy → (O → Call → O → Type 0) → Moment Tree O → Moment Tree O → Bool → Type 0
Turns strategy step p q true = Judges strategy step p q
Turns strategy step p q false = (q ≡ p) × IsOver strategy p.store p.state

-- the dialogue came to a finding, or it broke off
abbrev pub Ends : {O : Type 0} → Strategy → (O → Call → O → Type 0) → Moment Tree O → Store → O → Result Finding AskEnd → Type 0
Ends strategy step p store oracle result = MatchResult result (λ f. Reaches (wrong strategy) step p store oracle f) (λ e. Breaks (wrong strategy) step p store oracle e)
