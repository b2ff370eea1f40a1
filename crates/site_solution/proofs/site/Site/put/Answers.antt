use Rattle.std.proofs.Common.{◌≡◌, ◌+◌, ◌<◌, ◌^◌, ◌∙◌, sym, ap, arith}
use Rattle.net_laws.specs.Site.{Site}
use Rattle.site_shelves.specs.Counted.{waiting_in}
use Rattle.site_solution.specs.inside.Stored.{seen, IsStored}
use Rattle.site_limits.specs.Knows.{IsKnown}
use Rattle.site_solution.proofs.Keeping.{put-stored, put-site, put-either}
use Rattle.site_solution.proofs.Knowing.{known-later, known-put}
use Rattle.site_solution.proofs.site.Site.put.Goals as goal

pub invariant_of-self : goal.invariant_of-self
invariant_of-self c =
    let s : Site = seen c.self.inside in
    let h = c.self.invariant in
    let here = rw (← c.self.view_is) at c.requires.here in
    let new = rw (← c.self.view_is) at c.requires.new in
    let held : c.waiting.result ≡ waiting_in s =
    c.waiting.ensures.count ∙ ap waiting_in (sym c.self.view_is) in
    let room : waiting_in s + 1 < 2 ^ 32 = omega (arith, held, c.if-waiting.false) in
    let known = c.note_msg.new.known in
    record {
      stored = put-either c.self.inside c.args.loc.now c.args.msg c.put.new.self IsStored
          c.put.result c.put.ensures.ok c.put.ensures.err h.stored
          (put-stored c.args.loc.now c.args.msg s h.stored here c.requires.home new room);
      known = put-either c.self.inside c.args.loc.now c.args.msg c.put.new.self (IsKnown known)
          c.put.result c.put.ensures.ok c.put.ensures.err
          (known-later c.self.inside.known known _ s c.note_msg.ensures h.known)
          (known-put c.self.inside.known known c.args.loc.now c.args.msg s h.stored.kept here
          c.requires.home c.note_msg.ensures h.known);
    }

pub returns-clause-ok : goal.returns-clause-ok
returns-clause-ok c = rw (← c.self.view_is)
    (put-site c.self.inside c.args.loc.now c.args.msg c.put.new.self c.put.result
    c.put.ensures.ok)
