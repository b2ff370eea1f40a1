-- How the logic stores a term: one to one as a tree of numbers.
use Rattle.std.proofs.Common.{◌≡◌, ◌≢◌, ℕ, List, refl, ap, arith}
use Rattle.std.specs.Coded.{Coded, coded_list}
use base.Stored.{Gv, gnil, gnum, gcons}
use Rattle.chem_model.specs.declared.name.Ref.{Ref}
use Rattle.chem_model.specs.declared.name.Pat.{Pat}
use Rattle.chem_model.specs.contracts.name.Ref as ref
use Rattle.chem_model.specs.contracts.name.Pat as pat
use Rattle.chem_model.specs.Process.{Process, Msg, Par, Def, Go, Fail, Halt, Processes, none}
use Rattle.chem_model.specs.Process.{one_more, Definition, Rule, Place, Definitions, no_definition}
use Rattle.chem_model.specs.Process.{and_also}

abbrev head : Gv → Gv
head gnil = gnil
head (gnum n) = gnil
head (gcons a b) = a

abbrev tail : Gv → Gv
tail gnil = gnil
tail (gnum n) = gnil
tail (gcons a b) = b

abbrev refs_code : Coded (List Ref)
refs_code = coded_list ref.the_row.coded

abbrev pats_code : Coded (List Pat)
pats_code = coded_list pat.the_row.coded

apart : (m n : ℕ) {a b : Gv} → m ≢ n → gcons (gnum m) a ≡ gcons (gnum n) b → ⊥
apart m n other p = other (cc)

abbrev mutual
  pub process_code : Process → Gv
  process_code (Msg x vs) = gcons (gnum 0) (gcons (ref.the_row.coded.code x) (refs_code.code vs))
  process_code (Par ps) = gcons (gnum 1) (processes_code ps)
  process_code (Def ds p) = gcons (gnum 2) (gcons (definitions_code ds) (process_code p))
  process_code (Go b k) =
      gcons (gnum 3) (gcons (ref.the_row.coded.code b) (ref.the_row.coded.code k))
  process_code (Fail b k) =
      gcons (gnum 4) (gcons (ref.the_row.coded.code b) (ref.the_row.coded.code k))
  process_code Halt = gcons (gnum 5) gnil

  pub processes_code : Processes → Gv
  processes_code none = gnil
  processes_code (one_more p ps) = gcons (process_code p) (processes_code ps)

  pub definition_code : Definition → Gv
  definition_code (Rule ps p) = gcons (gnum 0) (gcons (pats_code.code ps) (process_code p))
  definition_code (Place a ds p) =
      gcons (gnum 1) (gcons (ref.the_row.coded.code a)
      (gcons (definitions_code ds) (process_code p)))

  pub definitions_code : Definitions → Gv
  definitions_code no_definition = gnil
  definitions_code (and_also d ds) = gcons (definition_code d) (definitions_code ds)

mutual
  pub process_inj : (x y : Process) → process_code x ≡ process_code y → x ≡ y
  process_inj (Msg x vs) (Msg y ws) p =
      λ i. Msg (ref.the_row.coded.inj x y (ap (λ g. head (tail g)) p) i)
      (refs_code.inj vs ws (ap (λ g. tail (tail g)) p) i)
  process_inj (Par ps) (Par qs) p = ap Par (processes_inj ps qs (ap tail p))
  process_inj (Def ds a) (Def es b) p =
      λ i. Def (definitions_inj ds es (ap (λ g. head (tail g)) p) i)
      (process_inj a b (ap (λ g. tail (tail g)) p) i)
  process_inj (Go x u) (Go y v) p =
      λ i. Go (ref.the_row.coded.inj x y (ap (λ g. head (tail g)) p) i)
      (ref.the_row.coded.inj u v (ap (λ g. tail (tail g)) p) i)
  process_inj (Fail x u) (Fail y v) p =
      λ i. Fail (ref.the_row.coded.inj x y (ap (λ g. head (tail g)) p) i)
      (ref.the_row.coded.inj u v (ap (λ g. tail (tail g)) p) i)
  process_inj Halt Halt p = refl
  process_inj _ _ p = absurd (apart _ _ (omega arith) p)

  pub processes_inj : (xs ys : Processes) → processes_code xs ≡ processes_code ys → xs ≡ ys
  processes_inj none none p = refl
  processes_inj (one_more x xs) (one_more y ys) p =
      λ i. one_more (process_inj x y (ap head p) i) (processes_inj xs ys (ap tail p) i)
  processes_inj _ _ p = cc

  pub definition_inj : (x y : Definition) → definition_code x ≡ definition_code y → x ≡ y
  definition_inj (Rule ps a) (Rule qs b) p =
      λ i. Rule (pats_code.inj ps qs (ap (λ g. head (tail g)) p) i)
      (process_inj a b (ap (λ g. tail (tail g)) p) i)
  definition_inj (Place x ds a) (Place y es b) p =
      λ i. Place (ref.the_row.coded.inj x y (ap (λ g. head (tail g)) p) i)
      (definitions_inj ds es (ap (λ g. head (tail (tail g))) p) i)
      (process_inj a b (ap (λ g. tail (tail (tail g))) p) i)
  definition_inj _ _ p = absurd (apart _ _ (omega arith) p)

  pub definitions_inj : (xs ys : Definitions) → definitions_code xs ≡ definitions_code ys → xs ≡ ys
  definitions_inj no_definition no_definition p = refl
  definitions_inj (and_also x xs) (and_also y ys) p =
      λ i. and_also (definition_inj x y (ap head p) i) (definitions_inj xs ys (ap tail p) i)
  definitions_inj _ _ p = cc

abbrev pub coded_process : Coded Process
coded_process = record { code = process_code; inj = process_inj }

abbrev pub coded_definition : Coded Definition
coded_definition = record { code = definition_code; inj = definition_inj }
