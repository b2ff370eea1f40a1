use Rattle.std.proofs.Common.{ℕ, List, length, sym, ap, subst, ◌∙◌}
use Rattle.status_words.specs.Words.{has_bit}
use Rattle.site_shelves.specs.inside.Waits.{AreWaiting, WaitsOn}
use Rattle.site_shelves.proofs.WaitLemmas.{waiting-kept, waiting-more}
use Rattle.site_shelves.proofs.level_masks.LevelMasks.add.Goals as goal

pub invariant_of-self : goal.invariant_of-self
invariant_of-self c = waiting-kept c.self.inside.masks c.self.inside.waits.items
    c.wait_on_all.new.waits.items c.wait_on_all.ensures.kept c.self.invariant

pub invariant_of-self-in_err-push : goal.invariant_of-self-in_err-push
invariant_of-self-in_err-push c =
    subst (λ (ms : List (List ℕ)). AreWaiting ms c.wait_on_all.new.waits.items)
    (sym c.in_err-push.ensures.err)
    (waiting-kept c.self.inside.masks c.self.inside.waits.items c.wait_on_all.new.waits.items
    c.wait_on_all.ensures.kept c.self.invariant)

pub invariant_of-self-2 : goal.invariant_of-self-2
invariant_of-self-2 c =
    let waits = c.wait_on_all.new.waits.items in
    let chans = c.args.guard.now.chans in
    let on : WaitsOn waits (length c.self.inside.masks) chans =
    subst (WaitsOn waits (length c.self.inside.masks)) c.as_slice.ensures.members
    (subst (λ n. WaitsOn waits n c.as_slice.result.now) c.len-place.ensures.count
    c.in_ok-wait_on_all.ensures.here) in
    subst (λ (ms : List (List ℕ)). AreWaiting ms waits) (sym c.in_ok-push.ensures.ok)
    (waiting-more c.self.inside.masks waits c.in_ok-mask.mask chans
    (waiting-kept c.self.inside.masks c.self.inside.waits.items waits c.wait_on_all.ensures.kept
    c.self.invariant) on
    (λ d has. c.requires d (ap (λ w. has_bit w d) (sym c.in_ok-mask.ensures) ∙ has)))
