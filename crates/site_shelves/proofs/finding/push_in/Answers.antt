use Rattle.std.proofs.Common.{ℕ, ◌∷◌, ◌++◌, [], length, subst, sym, ap, ◌∙◌}
use Rattle.queue_cells.specs.Grouped.{queue_in}
use Rattle.site_shelves.specs.inside.Covered.{HasSerials}
use Rattle.site_shelves.proofs.Noting.{with-queue-many}
use Rattle.site_shelves.proofs.StillHeld.{queue-still}
use Rattle.site_shelves.proofs.Renoting.{queue-aside}
use Rattle.site_shelves.proofs.finding.push_in.Goals as goal

pub refresh_on-requires-clause-serials : goal.refresh_on-requires-clause-serials
refresh_on-requires-clause-serials c =
    let ms = queue_in c.args.groups.now.groups c.args.group c.args.chan ++ c.args.msg ∷ [] in
    let many = ap length c.push_reserved.ensures.groups
    ∙ with-queue-many c.args.groups.now.groups c.args.group c.args.chan ms in
    subst (λ (n : ℕ). HasSerials c.args.spots.now n) (sym many) c.requires.serials

pub refresh_on-requires-clause-others : goal.refresh_on-requires-clause-others
refresh_on-requires-clause-others c =
    let ms = queue_in c.args.groups.now.groups c.args.group c.args.chan ++ c.args.msg ∷ [] in
    queue-aside c.args.covering.now c.args.spots.now.serials.items c.args.groups.now.groups
    c.push_reserved.new.self.groups c.args.group c.args.chan ms
    c.push_reserved.ensures.groups c.requires.covering

pub returns-else-not-held-clause-covering : goal.returns-else-not-held-clause-covering
returns-else-not-held-clause-covering c =
    let ms = queue_in c.args.groups.now.groups c.args.group c.args.chan ++ c.args.msg ∷ [] in
    queue-still c.args.covering.now c.args.spots.now.serials.items c.args.groups.now.groups
    c.push_reserved.new.self.groups c.args.group c.args.chan ms c.push_reserved.ensures.groups
    (λ _. c.holds-held.ensures c.if-not-held.false) c.requires.covering
