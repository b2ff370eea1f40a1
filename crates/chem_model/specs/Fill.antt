-- Filling: known names in place of binders.
use Rattle.std.specs.Prelude.{ℕ, List, [], ◌∷◌, ◌==◌, Option, Some, None, cond}
use Rattle.chem_model.specs.declared.name.Name.{Name}
use Rattle.chem_model.specs.declared.name.Ref.{Ref}
use Rattle.chem_model.specs.declared.name.Ref.TheVariants.{Binder, Known}
use Rattle.chem_model.specs.declared.name.Pat.{Pat}
use Rattle.chem_model.specs.Process.{Process, Msg, Par, Def, Go, Fail, Halt, Processes, none}
use Rattle.chem_model.specs.Process.{one_more, Definition, Rule, Place, Definitions, no_definition}
use Rattle.chem_model.specs.Process.{and_also}
pub use Rattle.chem_model.specs.declared.numbered.Named.{Named}

-- a finite map from binders to names: of two entries of a binder the first counts
abbrev pub Naming : Type 0
Naming = List Named

abbrev pub name_at : Naming → ℕ → Option Name
name_at [] b = None
name_at (e ∷ m) b = cond (e.binder == b) (Some e.name) (name_at m b)

-- the name in place of a binder, where it has one
abbrev pub or_binder : ℕ → Option Name → Ref
or_binder b None = Binder b
or_binder b (Some n) = Known n

abbrev pub fill_ref : Naming → Ref → Ref
fill_ref m (Binder b) = or_binder b (name_at m b)
fill_ref m (Known n) = Known n

abbrev pub fill_refs : Naming → List Ref → List Ref
fill_refs m [] = []
fill_refs m (r ∷ rs) = fill_ref m r ∷ fill_refs m rs

-- a pattern's parameters stay: they are bound by it
abbrev pub fill_pats : Naming → List Pat → List Pat
fill_pats m [] = []
fill_pats m (p ∷ ps) = record { on = fill_ref m p.on; params = p.params } ∷ fill_pats m ps

-- the term with the map's names in place of its binders: each binder of a program has its own
-- number, and what is put in is a known name, so nothing is captured
abbrev mutual
  pub fill : Naming → Process → Process
  fill m (Msg x vs) = Msg (fill_ref m x) (fill_refs m vs)
  fill m (Par ps) = Par (fill_all m ps)
  fill m (Def ds p) = Def (fill_definitions m ds) (fill m p)
  fill m (Go b k) = Go (fill_ref m b) (fill_ref m k)
  fill m (Fail a k) = Fail (fill_ref m a) (fill_ref m k)
  fill m Halt = Halt

  pub fill_all : Naming → Processes → Processes
  fill_all m none = none
  fill_all m (one_more p ps) = one_more (fill m p) (fill_all m ps)

  pub fill_definition : Naming → Definition → Definition
  fill_definition m (Rule ps p) = Rule (fill_pats m ps) (fill m p)
  fill_definition m (Place a ds p) = Place (fill_ref m a) (fill_definitions m ds) (fill m p)

  pub fill_definitions : Naming → Definitions → Definitions
  fill_definitions m no_definition = no_definition
  fill_definitions m (and_also d ds) = and_also (fill_definition m d) (fill_definitions m ds)
