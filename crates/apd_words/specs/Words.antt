-- What the words of the command line ask for, as the crate clap takes them for one simple command.
use Rattle.std.specs.Prelude.{ℕ, ◌≡◌, ◌<◌, ◌≤◌, ◌&&◌, List, [], ◌∷◌, length, Bool, true, false, if◌then◌else◌, Option, None, Some, nat_le, codes, map, String, string_bytes, ⊤}
use Rattle.std.specs.Char.{is_ascii_digit}
use Rattle.std.specs.List.{list_all, fold}
use Rattle.std.specs.Option.{option_map}
use Rattle.std.specs.Str.{bytes_eq}
use Rattle.std.specs.Str.Parse.{digits_value}
use Rattle.clap.specs.Words.{App, Row, Rule, Kinds, fault_of, first_of, matches_of, new_app, new_rule, with_rule}
use Rattle.clap.specs.declared.builder.ArgAction.TheVariants.{Set, SetTrue}
use Rattle.apd_ports.specs.declared.filter.Filter.{Filter}
use Rattle.apd_ports.specs.declared.filter.Filter.TheVariants.{Off, All}
use Rattle.apd_divide.specs.declared.node.Strategy.{Strategy}
use Rattle.apd_divide.specs.declared.node.Strategy.TheVariants.{Divide, Single, Top}
use Rattle.apd_gen.specs.Nodes.{IsNodeCount}
use Rattle.apd_gen.specs.declared.nodes.TheConstants.{MOST_NODES}
use Rattle.apd_words.specs.declared.options.Wanted.{Wanted}
use Rattle.apd_words.specs.declared.options.Subject as subjects
use Rattle.apd_base.specs.declared.limits.TheConstants.{MOST_SHOWN, USUAL_BUDGET}

-- the bytes of each word
abbrev pub bytes_of : {A : Type 0} → List (String A) → List (List ℕ)
bytes_of words = map (λ w. string_bytes w) words

-- The command: `--budget N`, `--answers N`, `--strategy NAME`, `--oracle FILE`, `--reference FILE`, `--demo N`, `--check LOG`, `--trace` and
-- the name of a file, none of which clap requires.

-- an option with one value
abbrev pub option_rule : List ℕ → Rule
option_rule name = record (new_rule name) { long = Some name; action = Some Set }

abbrev pub trace_rule : Rule
trace_rule = record (new_rule (codes "trace")) { long = Some (codes "trace"); action = Some SetTrue }

abbrev pub program_rule : Rule
program_rule = record (new_rule (codes "program")) { action = Some Set }

-- the arguments: options, a flag, and the name of a file
abbrev pub arguments : List Rule
arguments =
    option_rule (codes "budget") ∷ option_rule (codes "answers") ∷ option_rule (codes "strategy") ∷ option_rule (codes "oracle") ∷
    option_rule (codes "reference") ∷ option_rule (codes "demo") ∷ option_rule (codes "check") ∷ trace_rule ∷ program_rule ∷ []

unfoldable pub command : App
command = fold with_rule (new_app (codes "apd")) arguments

-- what is debugged: the program in the file of this name, or, as a demonstration, the program of a tree of so many nodes; or a log that
-- was written for the program in the first file is checked, which is in the second
pub data Subject : Type 0 where
  InFile : List ℕ → Subject
  OfTree : ℕ → Subject
  OfLog : List ℕ → List ℕ → Subject

abbrev pub asked_subject : subjects.Subject → Subject
asked_subject (subjects.TheVariants.File name) = InFile name.now
asked_subject (subjects.TheVariants.Tree nodes) = OfTree nodes
asked_subject (subjects.TheVariants.Log program log) = OfLog program.now log.now

-- a tree has 1 to 10,000 nodes, no oracle file and no reference program, and a log that is checked has no reference program
abbrev pub StandsAlone : Subject → Option (List ℕ) → Option (List ℕ) → Type 0
StandsAlone (InFile name) oracle reference = ⊤
StandsAlone (OfTree nodes) oracle reference = IsNodeCount nodes × (oracle ≡ None) × (reference ≡ None)
StandsAlone (OfLog program log) oracle reference = reference ≡ None

-- what the words ask for
pub record Options : Type 0 where
  pub subject : Subject
  pub budget : ℕ
  pub answers : ℕ
  pub filter : Filter
  pub strategy : Strategy
  pub oracle : Option (List ℕ)
  pub reference : Option (List ℕ)

-- what was asked for, as options
abbrev pub asked_options : Wanted → Options
asked_options a = record {
  subject = asked_subject a.subject;
  budget = a.budget;
  answers = a.answers;
  filter = a.filter;
  strategy = a.strategy;
  oracle = option_map (λ s. s.now) a.oracle;
  reference = option_map (λ s. s.now) a.reference;
}

-- limits on ports and on answers are from 1 to 1,000,000
pub record AreLimits (ports answers : ℕ) : Type 0 where
  pub some_ports : 0 < ports
  pub few_ports : ports ≤ MOST_SHOWN
  pub some_answers : 0 < answers
  pub few_answers : answers ≤ MOST_SHOWN

-- a number from 1 to the most
abbrev pub within : ℕ → ℕ → Option ℕ
within most n = if nat_le 1 n && nat_le n most then Some n else None

-- a word of 1 to 7 decimal digits
abbrev pub is_number : List ℕ → Bool
is_number word = nat_le 1 (length word) && (nat_le (length word) 7 && list_all is_ascii_digit word)

-- the number from 1 to the most that such a word writes
abbrev pub number_of : ℕ → List ℕ → Option ℕ
number_of most word = if is_number word then within most (digits_value 10 word) else None

-- the limit that a value gives, from 1 to 1,000,000; without a value it is the usual one
abbrev pub limit_or : ℕ → Option (List ℕ) → Option ℕ
limit_or usual None = Some usual
limit_or usual (Some word) = number_of MOST_SHOWN word

-- all ports are printed where the flag is set
abbrev pub filter_of : Option (List ℕ) → Filter
filter_of None = Off
filter_of (Some word) = if bytes_eq word (codes "true") then All else Off

-- the strategy of this name
abbrev pub strategy_named : List ℕ → Option Strategy
strategy_named word =
    if bytes_eq word (codes "divide") then Some Divide
    else if bytes_eq word (codes "single") then Some Single
    else if bytes_eq word (codes "top") then Some Top
    else None

-- the strategy that a value names; without a value it is the one that halves the suspects
abbrev pub strategy_or : Option (List ℕ) → Option Strategy
strategy_or None = Some Divide
strategy_or (Some word) = strategy_named word

-- a tree of so many nodes, where there is a number
abbrev pub tree_of : Option ℕ → Option Subject
tree_of None = None
tree_of (Some nodes) = Some (OfTree nodes)

-- what is debugged, by the values that name how many nodes a tree has, an oracle file, a reference program's file and a program's
-- file: exactly one of the first and the last, and a tree has neither of the two others
abbrev pub subject_from : Option (List ℕ) → Option (List ℕ) → Option (List ℕ) → Option (List ℕ) → Option Subject
subject_from None oracle reference None = None
subject_from None oracle reference (Some program) = Some (InFile program)
subject_from (Some demo) None None None = tree_of (number_of MOST_NODES demo)
subject_from (Some demo) None None (Some program) = None
subject_from (Some demo) None (Some reference) program = None
subject_from (Some demo) (Some oracle) reference program = None

-- neither a limit, a strategy nor ports that are printed are asked for
abbrev pub is_plain : Option (List ℕ) → Option (List ℕ) → Option (List ℕ) → Filter → Bool
is_plain None None None Off = true
is_plain budget answers strategy filter = false

-- a log is checked where nothing else is asked for but an oracle file, and a program's file is named
abbrev pub log_from : Bool → List ℕ → Option (List ℕ) → Option (List ℕ) → Option (List ℕ) → Option Subject
log_from false log demo reference program = None
log_from true log (Some demo) reference program = None
log_from true log None (Some reference) program = None
log_from true log None None None = None
log_from true log None None (Some program) = Some (OfLog program log)

-- a log is checked, where one is named; else something is debugged
abbrev pub subject_with : Bool → Option (List ℕ) → Option (List ℕ) → Option (List ℕ) → Option (List ℕ) → Option (List ℕ) → Option Subject
subject_with plain None demo oracle reference program = subject_from demo oracle reference program
subject_with plain (Some log) demo oracle reference program = log_from plain log demo reference program

-- the options that values give, where each limit keeps its rule, the strategy is known and something is debugged
abbrev pub options_from : Option ℕ → Option ℕ → Filter → Option Strategy → Option (List ℕ) → Option (List ℕ) → Option Subject → Option Options
options_from (Some budget) (Some answers) filter (Some strategy) oracle reference (Some subject) =
    Some (record { subject = subject; budget = budget; answers = answers; filter = filter; strategy = strategy; oracle = oracle; reference = reference })
options_from budget answers filter strategy oracle reference subject = None

-- the options that clap's matches give
abbrev pub options_in : List Row → Option Options
options_in rows =
    let budget = first_of (codes "budget") rows in
    let answers = first_of (codes "answers") rows in
    let strategy = first_of (codes "strategy") rows in
    let filter = filter_of (first_of (codes "trace") rows) in
    let oracle = first_of (codes "oracle") rows in
    let reference = first_of (codes "reference") rows in
    options_from (limit_or USUAL_BUDGET budget) (limit_or MOST_SHOWN answers) filter (strategy_or strategy) oracle reference
    (subject_with (is_plain budget answers strategy filter) (first_of (codes "check") rows) (first_of (codes "demo") rows) oracle reference
    (first_of (codes "program") rows))

-- there is no fault
abbrev pub is_faultless : Kinds → Bool
is_faultless [] = true
is_faultless (kind ∷ kinds) = false

-- what the words ask for, the first of them being the program's own name; nothing where clap finds a fault in them for the
-- command, or one of these rules is broken
unfoldable pub options_of : List (List ℕ) → Option Options
options_of words = if is_faultless (fault_of command words) then options_in (matches_of command words) else None
