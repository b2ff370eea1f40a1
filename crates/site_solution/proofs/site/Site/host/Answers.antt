use Rattle.std.proofs.Common.{List, ◌∷◌, []}
use Rattle.chem_model.specs.declared.name.Loc.{Loc}
use Rattle.net_laws.specs.Site.{Site}
use Rattle.net_laws.specs.Kept.{IsKept}
use Rattle.net_laws.proofs.Posting.{host_kept}
use Rattle.site_solution.specs.inside.Stored.{seen}
use Rattle.site_limits.specs.Knows.{IsKnown}
use Rattle.site_solution.proofs.Keeping.{either}
use Rattle.site_solution.proofs.Knowing.{known-later, known-host}
use Rattle.site_solution.proofs.site.Site.host.Goals as goal

pub invariant_of-self : goal.invariant_of-self
invariant_of-self c =
    let s : Site = seen c.self.inside in
    let h = c.self.invariant in
    let known = c.note_home.new.known in
    record {
      stored = record {
        kept = either (λ (ls : List Loc). IsKept (record s { locs = ls }))
            c.add.result c.self.inside.locs.locs _
            c.add.new.self.locs c.add.ensures.ok c.add.ensures.err h.stored.kept
            (host_kept (c.args.loc.now ∷ []) c.self.inside.made s h.stored.kept);
        once = h.stored.once;
        few_waiting = h.stored.few_waiting;
      };
      known = either (λ (ls : List Loc). IsKnown known (record s { locs = ls }))
          c.add.result c.self.inside.locs.locs _
          c.add.new.self.locs c.add.ensures.ok c.add.ensures.err
          (known-later c.self.inside.known known _ s c.note_home.ensures h.known)
          (known-host c.self.inside.known known c.args.loc.now s c.note_home.ensures h.known);
    }
