-- The instances of candidates' lines, one after the other, while names are put at the end.
use Rattle.std.proofs.Common.{◌≡◌, ◌++◌, true, ℕ, List, [], ◌∷◌, length, Some, ◌∙◌}
use Rattle.std.specs.List.{AllByRecursion}
use Rattle.apd_console.specs.Lines.{lines_of}
use Rattle.apd_ops.specs.Table.{Table}
use Rattle.apd_read.specs.Reader.{Reader}
use Rattle.apd_term.specs.Growth.{Grown}
use Rattle.apd_term.specs.Named.{TupleIsNamed}
use Rattle.apd_term.specs.declared.instance.Instance.{Instance}
use Rattle.apd_talk.specs.Speech.{Lasting}
use Rattle.apd_lines.proofs.Growing.{Grown-more}
use Rattle.apd_claims.specs.Saying.{instance_in, instances_in, is_candidate}
use Rattle.apd_claims.specs.Texts.{KeepsFew}
use Rattle.apd_claims.proofs.Grouping.{instances-more}
use Rattle.apd_claims.proofs.Naming.{instances-later, instances-push}

module _ (ops : Table) (text : List ℕ) where
  -- these were told so far, and those of the lines that are left come behind them
  pub record Listing (first names : List (List ℕ)) (cs : List Instance) (left : List ℕ) : Type 0 where
    pub grown : Grown first names
    pub few : KeepsFew first names
    pub named : AllByRecursion (λ (c : Instance). TupleIsNamed (length names) c.tuple) cs
    pub rest : Lasting names (λ n. (reader : Reader n) → instances_in reader ops [] (lines_of text) ≡ instances_in reader ops cs (lines_of left))

  module _ (first names later : List (List ℕ)) (cs : List Instance) (left line behind : List ℕ) (before : Listing first names cs left) (grew : Grown names later) (keeps : KeepsFew names later)
      (split : lines_of left ≡ line ∷ lines_of behind) (yes : is_candidate line ≡ true) where
    pub Listing-more : (c : Instance) → TupleIsNamed (length later) c.tuple → Lasting later (λ n. (reader : Reader n) → Some c ≡ instance_in reader ops line) → Listing first later (cs ++ c ∷ []) behind
    Listing-more c named is = record {
      grown = Grown-more first names later before.grown grew;
      few = λ l. keeps (before.few l);
      named = instances-push (length later) cs c (instances-later names later cs grew before.named) named;
      rest = λ n g reader.
          before.rest n (Grown-more names later n grew g) reader
          ∙ instances-more n reader ops cs c line (lines_of behind) (lines_of left) split yes (is n g reader);
    }
