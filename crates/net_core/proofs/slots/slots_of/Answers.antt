use Rattle.std.proofs.Common.{[], ◌∷◌, ◌++◌, ap, sym, ◌∙◌}
use Rattle.net_core.specs.inside.Slots.{slot_of}
use Rattle.net_core.proofs.SlotLists.{slots_more}
use Rattle.net_core.proofs.slots.slots_of.Goals as goal

pub loop-site-preserved : goal.loop-site-preserved
loop-site-preserved c =
    c.in_ok-push.ensures.items ∙ ap (λ xs. xs ++ slot_of c.in-Some.site ∷ []) c.loop-site.invariant
    ∙ sym (slots_more c.loop-site.yielded c.in-Some.site)
