-- What is said of a text where its sort lines have a fault.
use Rattle.std.proofs.Common.{List, sym, subst, inl}
use Rattle.std.specs.Prelude.{Result, Ok, Err, IfOk}
use Rattle.chem_model.specs.declared.memory.Memory.{Memory}
use Rattle.chem_model.specs.ProgramFacts.{ProgramTerms}
use Rattle.join_parse.specs.Grammar.{TreeOfText}
use Rattle.sort_lines.specs.declared.read.SortEnd.{SortEnd}
use Rattle.sort_lines.specs.declared.read.SortEnd.TheVariants as sort_end
use Rattle.sort_lines.specs.Lines.{Line}
use Rattle.sort_lines.specs.Outcomes.{NamesFault}
use Rattle.sort_check.specs.declared.judged.Judged.{Judged}
use Rattle.sort_check.specs.Judged.{MeansNoWrongAtom}
use Rattle.sort_judge.specs.Verdict.{IsVerdict}
use Rattle.sort_judge.specs.inside.Said.{IsFaultOf}

module _ (ls : List Line) (tree : TreeOfText) (p : ProgramTerms) where
  pub is_verdict : (end : SortEnd) (r : Result Judged Memory) → NamesFault ls end
      → IfOk r (IsFaultOf end) → IfOk r (IsVerdict ls tree p)
  is_verdict (sort_end.Fault kind place) (Ok v) first is =
      subst (IsVerdict ls tree p) (sym is) (inl first)
  is_verdict sort_end.Memory (Ok v) first is = absurd is
  is_verdict end (Err e) first is = tt

  pub keeps : (end : SortEnd) (r : Result Judged Memory) → IfOk r (IsFaultOf end)
      → IfOk r (MeansNoWrongAtom p)
  keeps (sort_end.Fault kind place) (Ok v) is = subst (MeansNoWrongAtom p) (sym is) tt
  keeps sort_end.Memory (Ok v) is = absurd is
  keeps end (Err e) is = tt
