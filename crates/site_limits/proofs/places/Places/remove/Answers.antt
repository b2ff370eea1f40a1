use Rattle.std.proofs.Common.{rules, ◌≡◌, ap, ◌∙◌}
use Rattle.std.specs.Prelude.{filter}
use Rattle.std.proofs.lemmas.Fn.{filter_same}
use Rattle.site_limits.specs.Hosted.{locs_of}
use Rattle.site_limits.proofs.Hosting.{is_other, locs-kept}
use Rattle.site_limits.proofs.places.Places.remove.Goals as goal

pub returns : goal.returns
returns c =
    let left : c.retain.new.self.keys ≡ filter (is_other c.args.loc) c.self.inside.pairs.keys =
    filter_same _ (is_other c.args.loc) _ (λ x b f' k. search rules) _ _
    c.retain.ensures.filtered in
    rw (← c.self.view_is) (ap locs_of left ∙ locs-kept c.args.loc c.self.inside.pairs.keys)
