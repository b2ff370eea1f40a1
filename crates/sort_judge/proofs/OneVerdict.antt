-- A text with a program has one verdict.
use Rattle.std.proofs.Common.{◌≡◌, ℕ, ◌≤◌, Bool, List, ◌⊎◌, inl, inr, refl, subst, length}
use Rattle.chem_model.specs.ProgramFacts.{ProgramTerms, IsProgram}
use Rattle.scope_check.specs.Checked.{IsProgramOf}
use Rattle.join_lex.specs.Versions.{says_second}
use Rattle.join_lex.specs.declared.token.Token.{Token}
use Rattle.join_lex.specs.Tokens.{TokensOfText}
use Rattle.join_lex.specs.Lexical.{AreTokensOf}
use Rattle.join_lex.specs.Lexical as lexer
use Rattle.join_parse.specs.Grammar.{TreeOfText}
use Rattle.join_parse.specs.Levels.{most_levels}
use Rattle.join_parse.specs.Faults.{IsTheTree}
use Rattle.join_parse.specs.Faults as grammar
use Rattle.sort_laws.specs.declared.sorts.Sorts.{Sorts}
use Rattle.sort_lines.specs.Lines.{Line, lines_of}
use Rattle.sort_lines.specs.Faults.{AreSortsOf}
use Rattle.sort_lines.specs.Faults as lines
use Rattle.sort_lines.specs.Outcomes as outcomes
use Rattle.sort_check.specs.declared.judged.Judged.{Judged}
use Rattle.sort_check.specs.declared.judged.Judged.TheVariants.{Yes, No}
use Rattle.sort_check.specs.Judged.{IsJudged, TreesHaveOneJudgement, MeansNoWrongAtom}
use Rattle.sort_check.specs.Judged.{NoFaultNoWrongAtom}
use Rattle.text_program.specs.Text.{IsProgramOfText}
use Rattle.text_program.specs.Text as text
use Rattle.sort_judge.specs.Verdict.{IsByWords, IsVerdict, IsVerdictOn, HasOneVerdict}

module _ (lexed : (bytes : List ℕ) → lexer.HasOneOutcome bytes)
    (parsed : (second : Bool) (limit end : ℕ) (tokens : List Token)
    → grammar.HasOneOutcome second limit end tokens)
    (of_text : (bytes : List ℕ) → text.HasOneOutcome bytes)
    (of_lines : outcomes.LinesHaveOneOutcome) (of_tree : TreesHaveOneJudgement)
    (law : NoFaultNoWrongAtom) where
  -- two readings of a text have one tree
  same_tree : (bytes : List ℕ) (t u : TokensOfText) (tree other : TreeOfText) → AreTokensOf t bytes
      → AreTokensOf u bytes → IsTheTree t.list tree → IsTheTree u.list other → tree ≡ other
  same_tree bytes t u tree other a b is h =
      let same : t ≡ u = (lexed bytes).one_list t u a b in
      let is' : IsTheTree u.list tree =
      subst (λ (v : TokensOfText). IsTheTree v.list tree) same is in
      (parsed (says_second u.list) (most_levels (says_second u.list)) u.length u.list).one_tree tree
      other is'.is h.is

  short : (bytes : List ℕ) (t : TokensOfText) → AreTokensOf t bytes → length bytes ≤ 1048576
  short bytes t (version, is, tokens) = tokens.short

  -- ---- on one tree and its program

  module _ (ls : List Line) (one : outcomes.HasOneOutcome ls) (tree : TreeOfText)
      (p : ProgramTerms) where
    by_words : (a b : Judged) → IsByWords ls tree p a → IsByWords ls tree p b → a ≡ b
    by_words a b h g =
        let same : h.sorts ≡ g.sorts = one.one_list h.sorts g.sorts h.declared g.declared in
        (of_tree tree p g.sorts).one a b (subst (λ (s : Sorts). IsJudged tree p s a) same h.judged)
        g.judged

    not_both : (a : Judged) (k q : ℕ) → IsByWords ls tree p a → lines.IsFirstFault ls k q → ⊥
    not_both a k q h f = one.not_both h.sorts k q h.declared f

    same : (a b : Judged) → IsVerdict ls tree p a → IsVerdict ls tree p b → a ≡ b
    same Yes Yes h g = refl
    same Yes (No k q) h (inl g) = absurd (not_both Yes k q h g)
    same Yes (No k q) h (inr g) = by_words Yes (No k q) h g
    same (No k q) Yes (inl h) g = absurd (not_both Yes k q g h)
    same (No k q) Yes (inr h) g = by_words (No k q) Yes h g
    same (No k q) (No l r) (inl h) (inl g) =
        let one_fault = one.one_fault k q l r h g in
        λ i. No (one_fault.0 i) (one_fault.1 i)
    same (No k q) (No l r) (inl h) (inr g) = absurd (not_both (No l r) k q g h)
    same (No k q) (No l r) (inr h) (inl g) = absurd (not_both (No k q) l r h g)
    same (No k q) (No l r) (inr h) (inr g) = by_words (No k q) (No l r) h g

  -- ---- on a text

  one_of : (bytes : List ℕ) (a b : Judged) → IsVerdictOn bytes a → IsVerdictOn bytes b → a ≡ b
  one_of bytes a b h g =
      let trees : h.is_program.tree ≡ g.is_program.tree =
      same_tree bytes h.is_program.tokens g.is_program.tokens h.is_program.tree g.is_program.tree
      h.is_program.are_tokens g.is_program.are_tokens h.is_program.is_tree g.is_program.is_tree in
      let programs : h.program ≡ g.program =
      (of_text bytes).one_program h.program g.program h.is_program g.is_program in
      let moved : IsVerdict (lines_of bytes) g.is_program.tree g.program a =
      subst (λ (p : ProgramTerms). IsVerdict (lines_of bytes) g.is_program.tree p a) programs
      (subst (λ (t : TreeOfText). IsVerdict (lines_of bytes) t h.program a) trees h.is) in
      same (lines_of bytes)
      (of_lines bytes (short bytes g.is_program.tokens g.is_program.are_tokens))
      g.is_program.tree g.program a b moved g.is

  keeps : (tree : TreeOfText) (p : ProgramTerms) (sorts : Sorts) (a : Judged) → IsProgramOf tree p
      → IsProgram p → IsJudged tree p sorts a → MeansNoWrongAtom p a
  keeps tree p sorts Yes of is h = law tree p sorts of is h
  keeps tree p sorts (No k q) of is h = tt

  words_say : (ls : List Line) (tree : TreeOfText) (p : ProgramTerms) (a : Judged)
      → IsByWords ls tree p a → IsVerdict ls tree p a
  words_say ls tree p Yes h = h
  words_say ls tree p (No k q) h = inr h

  some_of : (bytes : List ℕ) (p : ProgramTerms) → IsProgram p → IsProgramOfText bytes p
      → (verdict : Judged) × IsVerdictOn bytes verdict
  some_of bytes p is of = go (of_lines bytes (short bytes of.tokens of.are_tokens)).some
    where
      go :
          ((sorts : Sorts) × AreSortsOf (lines_of bytes) sorts)
          ⊎ ((kind : ℕ) × (place : ℕ) × lines.IsFirstFault (lines_of bytes) kind place)
          → (verdict : Judged) × IsVerdictOn bytes verdict
      go (inl (sorts, are)) =
          let j = (of_tree of.tree p sorts).some in (
            j.0,
            record {
              program = p;
              is_program = of;
              is = words_say (lines_of bytes) of.tree p
                  j.0 (record { sorts = sorts; declared = are; judged = j.1 });
              keeps = keeps of.tree p sorts j.0 of.is_program is j.1;
            },
          )
      go (inr (kind, place, first)) =
          (No kind place, record { program = p; is_program = of; is = inl first; keeps = tt })

  pub one_verdict : (bytes : List ℕ) → HasOneVerdict bytes
  one_verdict bytes = record { some = some_of bytes; one = one_of bytes }
