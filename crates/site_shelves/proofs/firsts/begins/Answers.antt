use Rattle.std.proofs.Common.{refl, sym, ◌∙◌}
use Rattle.site_shelves.proofs.firsts.begins.Goals as goal

pub returns-then-not-is_behind : goal.returns-then-not-is_behind
returns-then-not-is_behind c = λ there. record {
  begin = (c.in-Some-Some.site, c.in-Some-Some.k, c.args.level);
  there = sym c.contains.ensures ∙ there;
  level_is = refl;
  no_later = sym c.is_behind.ensures ∙ c.if-not-is_behind.true;
}
