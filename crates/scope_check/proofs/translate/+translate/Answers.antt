use Rattle.std.proofs.Common.{rules, arith, ap, sym, subst, drop, length, None, IfNone, [], ◌∷◌}
use Rattle.std.proofs.Common.{◌++◌, ◌+◌, ◌∙◌, ◌≡◌, ◌≢◌, append_assoc}
use Rattle.join_parse.specs.Source.{processes, definitions}
use Rattle.join_parse.specs.SourceSize.{procs_depth, defs_depth}
use Rattle.join_parse.specs.Members.{procs_depth-member, defs_depth-member}
use Rattle.scope_check.specs.Blocks.{scopes_in, scopes_in_all, scopes_in_def, scopes_in_defs}
use Rattle.scope_check.specs.inside.Order.{first_of}
use Rattle.scope_check.specs.inside.Twin.{members_in, level_in, uses_in, all_uses_in}
use Rattle.scope_check.specs.inside.Twin.{definition_uses_in, level_uses_in}
use Rattle.scope_check.proofs.Folds.{first-append}
use Rattle.scope_check.proofs.Sites.{joined, drop-next}
use Rattle.scope_check.proofs.Room.{room-member, room-defs-member}
use Rattle.scope_check.proofs.translate.+translate.Goals as goal

pub body-process-requires-in-loop-p : goal.body-process-requires-in-loop-p
body-process-requires-in-loop-p t c =
    let items = c.as_slice-p-items.result.now in
    let falls =
    procs_depth-member items c.loop-p.p-index c.p-item.result c.loop-p-test.true c.p-item.is in
    let room =
    room-member items c.loop-p.p-index c.p-item.result c.loop-p-test.true c.p-item.is in (
      omega (arith, falls, c.decreases, ap procs_depth c.as_slice-p-items.ensures.members),
      omega (
        arith,
        room,
        c.requires,
        c.loop-p.invariant.end,
        ap (λ ps. scopes_in_all (processes ps)) c.as_slice-p-items.ensures.members,
      ),
    )

pub level-definition-requires : goal.level-definition-requires
level-definition-requires t c =
    let items = c.as_slice-d-items.result.now in
    let falls =
    defs_depth-member items c.loop-d.d-index c.d-item.result c.loop-d-test.true c.d-item.is in
    let room =
    room-defs-member items c.loop-d.d-index c.d-item.result c.loop-d-test.true c.d-item.is in (
      omega (arith, falls, c.decreases, ap defs_depth c.as_slice-d-items.ensures.members),
      omega (
        arith,
        room,
        c.requires,
        c.loop-d.invariant.end,
        ap (λ ds. scopes_in_defs (definitions ds)) c.as_slice-d-items.ensures.members,
      ),
    )

pub body-returns : goal.body-returns
body-returns t c =
    let i = c.loop-p.invariant in
    let gone : c.only.result ≡ None = search rules in
    let other : length c.args.list.now ≢ 1 =
    subst (λ o. IfNone o (length c.args.list.now ≢ 1)) gone c.only.ensures.none in
    let j = joined c.args.by.now.scopes.now c.args.env.now c.args.at c.loop-p.end c.loop-p.p-index
    c.as_slice-p-items.result.now c.args.list.now c.loop-p.members c.args.least.now c.loop-p.least
    i.items c.loop-p-test.false other i.end i.value i.least in
    record { value = c.par.ensures ∙ j.value; upto = j.upto; least = j.least }

pub body-loop-p-preserved : goal.body-loop-p-preserved
body-loop-p-preserved t c =
    let items = c.as_slice-p-items.result.now in
    let p = c.p-item.result in
    let rest = processes (drop (c.loop-p.p-index + 1) items) in
    let all = ap processes (drop-next items c.loop-p.p-index p c.loop-p-test.true c.p-item.is) in
    let end = c.loop-p.end in
    let e = c.in_ok-member.ensures in
    let inv = c.loop-p.invariant in
    let more = members_in c.args.by.now.scopes.now c.args.env.now (end + scopes_in p) rest in
    record {
      items = inv.items;
      end = omega (arith, ap scopes_in_all all, e.upto, inv.end);
      value = (λ i.
          c.in_ok-push.ensures.ok i
          ++ members_in c.args.by.now.scopes.now c.args.env.now (e.upto i) rest)
          ∙ append_assoc c.loop-p.members (c.in_ok-member.member ∷ []) more
          ∙ ap (λ m. c.loop-p.members ++ m ∷ more) e.value
          ∙ ap (λ l. c.loop-p.members ++ members_in c.args.by.now.scopes.now c.args.env.now end l)
          (sym all) ∙ inv.value;
      least =
          (λ i. first_of (e.least i)
          (all_uses_in c.args.by.now.scopes.now c.args.env.now (e.upto i) rest))
          ∙ sym (first-append c.loop-p.least (uses_in c.args.by.now.scopes.now c.args.env.now end p)
          (all_uses_in c.args.by.now.scopes.now c.args.env.now (end + scopes_in p) rest))
          ∙ ap
          (λ l. first_of c.loop-p.least (all_uses_in c.args.by.now.scopes.now c.args.env.now end l))
          (sym all) ∙ inv.least;
    }

pub level-loop-d-preserved : goal.level-loop-d-preserved
level-loop-d-preserved t c =
    let items = c.as_slice-d-items.result.now in
    let d = c.d-item.result in
    let rest = definitions (drop (c.loop-d.d-index + 1) items) in
    let all = ap definitions (drop-next items c.loop-d.d-index d c.loop-d-test.true c.d-item.is) in
    let end = c.loop-d.end in
    let e = c.in_ok-term.ensures in
    let inv = c.loop-d.invariant in
    let more =
    level_in c.args.by.now.scopes.now c.args.own.now c.args.env.now (end + scopes_in_def d) rest in
    record {
      items = inv.items;
      end = omega (arith, ap scopes_in_defs all, e.upto, inv.end);
      value = (λ i. c.in_ok-push.ensures.ok i
          ++ level_in c.args.by.now.scopes.now c.args.own.now c.args.env.now (e.upto i) rest)
          ∙ append_assoc c.loop-d.defs (c.in_ok-term.term ∷ []) more
          ∙ ap (λ m. c.loop-d.defs ++ m ∷ more) e.value
          ∙ ap
          (λ l.
          c.loop-d.defs ++ level_in c.args.by.now.scopes.now c.args.own.now c.args.env.now end l)
          (sym all) ∙ inv.value;
      least = (λ i.
          first_of (e.least i)
          (level_uses_in c.args.by.now.scopes.now c.args.env.now (e.upto i) rest))
          ∙ sym
          (first-append c.loop-d.least
          (definition_uses_in c.args.by.now.scopes.now c.args.env.now end d)
          (level_uses_in c.args.by.now.scopes.now c.args.env.now (end + scopes_in_def d) rest))
          ∙ ap (λ l.
          first_of c.loop-d.least (level_uses_in c.args.by.now.scopes.now c.args.env.now end l))
          (sym all) ∙ inv.least;
    }
