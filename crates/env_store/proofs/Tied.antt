-- The laws, for code that is a program's.
use Rattle.std.proofs.Common.{◌≡◌, ℕ, List, [], ◌++◌, length, ap, ◌∙◌}
use Rattle.chem_model.specs.Reduction.{given}
use Rattle.chem_model.specs.Pour.{naming, births_of, names_made, then_made, pour, lay}
use Rattle.chem_model.specs.declared.numbered.Made.{Made}
use Rattle.chem_model.specs.declared.program.SiteTerm.{SiteTerm}
use Rattle.chem_model.specs.Process.{definitions}
use Rattle.chem_model.specs.Fill.{Naming}
use Rattle.chem_model.specs.Opening.{root_of, site_names, counts_of}
use Rattle.env_store.specs.Layout.{levels_of_program}
use Rattle.env_store.specs.Running.{code_made, site_made}
use Rattle.env_store.specs.Groups.{unnamed}
use Rattle.chem_model.specs.declared.name.Loc.{Loc}
use Rattle.chem_model.specs.declared.name.Name.{Name}
use Rattle.env_store.specs.Laws.{as_poured_in, all_names, RunningIsPouring, OpeningIsPouring}
use Rattle.env_store.specs.Laws.{RunsLayGroups, OpeningsLayGroups, ReadsUnderEach}
use Rattle.env_store.proofs.Bodies.{code_made_is}
use Rattle.env_store.proofs.Pouring.{body_pours, site_pours}
use Rattle.env_store.proofs.Counted.{counted_run}
use Rattle.env_store.proofs.GroupsApart.{lays_groups}
use Rattle.env_store.proofs.GroupsNamed.{body_groups, site_groups}
use Rattle.env_store.proofs.SitePlaces.{program_sites}
use Rattle.env_store.proofs.ReadSites.{site_read}
use Rattle.env_store.proofs.ReadUnder.{reads_under}

pub running_is_pouring : RunningIsPouring
running_is_pouring p c ok kept is y q j body = record {
  pours = pours;
  counted = λ s l env k e.
      counted_run (levels_of_program p) (site_names p.sites) l (code_made c s j env l k)
      (counts_of p.seen) s (site_names p.sites ++ given y env) l k q (pours s l l env k e);
}
  where
    pours : (s : ℕ) (r l : Loc) (env : List Name) (k : ℕ) → length env ≡ length y
        → as_poured_in p r (code_made c s j env l k)
        ≡ unnamed (pour (counts_of p.seen) s r (all_names p y env) l k q)
    pours s r l env k e =
        let tops = site_names p.sites in
        body_pours c (levels_of_program p) tops (code_made c s) s r
        is.levels (code_made_is c s kept.falls) j y q env l k body e
        ∙ ap (λ seen. unnamed (pour seen s r (tops ++ given y env) l k q)) is.seen

pub reads_under_each : ReadsUnderEach
reads_under_each p c is y q j body env e = record {
  instrs = body.instrs;
  is_there = body.is_there;
  under =
      reads_under c (levels_of_program p) (site_names p.sites) q y env body.instrs [] e body.reads;
}

pub opening_is_pouring : OpeningIsPouring
opening_is_pouring p c ok kept is i t site e f =
    let tops = site_names p.sites in
    let ds = definitions t.defs in
    site_pours c (levels_of_program p) tops (code_made c i) i (root_of i)
    is.levels (code_made_is c i kept.falls) ds t.body site (site_read p c is i t site e f)
    (program_sites p ok i t e).0
    ∙ ap (λ seen. unnamed (opened seen tops i t)) is.seen
  where
    opened : List ℕ → Naming → ℕ → SiteTerm → Made
    opened seen m i t =
        let r = root_of i in
        let ds = definitions t.defs in
        let n = naming i r ds 1 in
        let b = lay seen i r m r n.next ds in
        then_made (names_made n (births_of r m ds)) (then_made b (pour seen i r m r b.next t.body))

pub runs_lay_groups : RunsLayGroups
runs_lay_groups p c ok kept is y q j body s l env k e =
    lays_groups p s k (code_made c s j env l k)
    (body_groups c (levels_of_program p) (site_names p.sites) (code_made c s) s l
    is.levels (code_made_is c s kept.falls) j y q env l k body e)

pub openings_lay_groups : OpeningsLayGroups
openings_lay_groups p c ok kept is i t site e f =
    let named = program_sites p ok i t e in
    lays_groups p i 1 (site_made c i site)
    (site_groups c (levels_of_program p) (site_names p.sites) (code_made c i) i (root_of i)
    is.levels (code_made_is c i kept.falls) (definitions t.defs) t.body site
    (site_read p c is i t site e f) named.0 named.1)
