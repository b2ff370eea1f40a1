-- The judge's answer.
use Rattle.std.proofs.Common.{◌≡◌, ◌++◌, Option, Some, None, refl, sym, ap, ◌∙◌}
use Rattle.chem_model.specs.ProgramFacts.{ProgramTerms, IsProgram}
use Rattle.join_parse.specs.Grammar.{TreeOfText}
use Rattle.scope_check.specs.Checked.{IsProgramOf}
use Rattle.sort_laws.specs.declared.sorts.Sorts.{Sorts}
use Rattle.sort_laws.specs.Sorted.{Sorting}
use Rattle.sort_laws.specs.Table.{sorting}
use Rattle.sort_check.specs.declared.fault.Found.{Found}
use Rattle.sort_check.specs.declared.judged.Judged.{Judged}
use Rattle.sort_check.specs.declared.judged.Judged.TheVariants.{Yes, No}
use Rattle.sort_check.specs.Asked.{asked_of_seen, asked_of}
use Rattle.sort_check.specs.Judged.{IsJudged, TreesHaveOneJudgement, MeansNoWrongAtom}
use Rattle.sort_check.specs.inside.First.{first_of}
use Rattle.sort_check.specs.inside.Pairs.{pair_sites}
use Rattle.sort_check.specs.inside.Answered.{judged_by}
use Rattle.sort_check.proofs.Tied.{all_tied_of}
use Rattle.sort_check.proofs.Firsts.{no_first, some_first, one_first}
use Rattle.sort_check.proofs.Passes.{no_fault_no_wrong_atom}

pub answered :
    (tree : TreeOfText) (p : ProgramTerms) (sorts : Sorts) (r : Sorting) (found : Option Found)
    → IsProgramOf tree p → r ≡ sorting sorts p
    → found ≡ first_of r.args None (asked_of_seen r 0 tree.seen ++ pair_sites r tree.sites p.sites)
    → IsJudged tree p sorts (judged_by found)
answered tree p sorts r found of_tree same e = go found refl
  where
    first : first_of (sorting sorts p).args None (asked_of (sorting sorts p) tree) ≡ found
    first =
        sym (ap (first_of (sorting sorts p).args None)
        (all_tied_of (sorting sorts p) tree p of_tree.is))
        ∙ (λ j. first_of (sym same j).args None
        (asked_of_seen (sym same j) 0 tree.seen ++ pair_sites (sym same j) tree.sites p.sites))
        ∙ sym e

    go : (o : Option Found) → found ≡ o → IsJudged tree p sorts (judged_by o)
    go None c = no_first (sorting sorts p) tree (first ∙ c)
    go (Some f) c = some_first (sorting sorts p) tree f (first ∙ c)

pub no_wrong : (tree : TreeOfText) (p : ProgramTerms) (sorts : Sorts) (found : Option Found)
    → IsProgramOf tree p → IsProgram p → IsJudged tree p sorts (judged_by found)
    → MeansNoWrongAtom p (judged_by found)
no_wrong tree p sorts None of_tree program h = no_fault_no_wrong_atom tree p sorts of_tree program h
no_wrong tree p sorts (Some f) of_tree program h = tt

-- ---- a tree has one judgement

module _ (tree : TreeOfText) (p : ProgramTerms) (sorts : Sorts) where
  same : (a b : Judged) → IsJudged tree p sorts a → IsJudged tree p sorts b → a ≡ b
  same Yes Yes h g = refl
  same Yes (No k q) h g = absurd (h k q g.0)
  same (No k q) Yes h g = absurd (g k q h.0)
  same (No k q) (No l r) h g =
      let one = one_first (sorting sorts p) tree k q l r h g in
      λ i. No (one.0 i) (one.1 i)

  found : (o : Option Found)
      → first_of (sorting sorts p).args None (asked_of (sorting sorts p) tree) ≡ o
      → (judged : Judged) × IsJudged tree p sorts judged
  found None e = (Yes, no_first (sorting sorts p) tree e)
  found (Some f) e = (No f.kind f.place, some_first (sorting sorts p) tree f e)

pub one_judgement : TreesHaveOneJudgement
one_judgement tree p sorts = record {
  some = found tree p sorts (first_of (sorting sorts p).args None (asked_of (sorting sorts p) tree))
      refl;
  one = same tree p sorts;
}
