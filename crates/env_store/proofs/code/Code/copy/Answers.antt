use Rattle.std.proofs.Common.{sym, ◌∙◌, subst}
use Rattle.env_store.specs.CodeFacts.{IsCode}
use Rattle.env_store.proofs.code.Code.copy.Goals as goal

pub invariant_of-result : goal.invariant_of-result
invariant_of-result c =
    subst IsCode
    (λ i. record {
      guards = sym c.in_ok-guards.ensures i;
      levels = sym c.in_ok-levels.ensures i;
      blocks = sym c.in_ok-blocks.ensures i;
      bodies = sym c.in_ok-bodies.ensures i;
      seen = sym c.in_ok-seen.ensures i;
      tops = sym c.in_ok-tops.ensures i;
      sites = sym c.in_ok-sites.ensures i;
    })
    c.self.invariant

pub returns : goal.returns
returns c =
    (λ i. record {
      guards = c.in_ok-guards.ensures i;
      levels = c.in_ok-levels.ensures i;
      blocks = c.in_ok-blocks.ensures i;
      bodies = c.in_ok-bodies.ensures i;
      seen = c.in_ok-seen.ensures i;
      tops = c.in_ok-tops.ensures i;
      sites = c.in_ok-sites.ensures i;
    })
    ∙ c.self.view_is
