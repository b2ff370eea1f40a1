use Rattle.std.proofs.Common.{◌≡◌, ◌+◌, ◌++◌, ◌∷◌, [], List, length, replicate, ap, sym, subst, arith}
use Rattle.std.proofs.Common.{◌∙◌, ◌<◌, Option, Some, None, rules}
use Rattle.std.specs.Option.{option_to_list}
use Rattle.std.specs.VecDeque.{deque_len}
use Rattle.site_solution.specs.declared.effects.Effects.{Effects}
use Rattle.net_core.specs.inside.Starting.{HandsAllOut, all_outs, all_sends, all_froms}
use Rattle.net_core.proofs.Starting.{none_behind, behind_more, none_of, none_some}
use Rattle.net_core.proofs.opening.hand_all_out.Goals as goal

pub loop-number-init : goal.loop-number-init
loop-number-init c = record { left = omega arith; rest = λ p runs h. h }

pub loop-number-preserved : goal.loop-number-preserved
loop-number-preserved c =
    let l = c.loop-number in
    let e = c.in-Some.effects in
    let rest = c.pop_front.new.self.items in
    let is : c.pop_front.result ≡ Some e = search rules in
    let front : l.handed.items ≡ e ∷ rest = c.pop_front.ensures.items
    ∙ ap (λ (o : Option Effects). option_to_list o ++ rest) is in
    record {
      left = omega (arith, l.invariant.left, ap length front);
      rest = λ p runs h. l.invariant.rest p runs
          (subst (λ (es : List Effects). HandsAllOut l.number es l.parts l.senders.items p runs)
          (sym front)
          (behind_more e.outs (all_outs rest) e.sends (all_sends rest)
          (replicate (length e.sends) l.number) (all_froms (l.number + 1) rest)
          l.parts c.hand_out.new.parts p l.senders.items c.hand_out.new.senders.items runs
          c.in_ok-hand_out.ensures h));
    }

pub unreachable-requires : goal.unreachable-requires
unreachable-requires c =
    let l = c.loop-number in
    let is : c.pop_front.result ≡ None = search rules in
    let some : 0 < deque_len l.handed = omega (
      arith,
      l.invariant.left,
      l.auto.number-end,
      c.loop-number-test.true,
      c.len-number-end.ensures,
      c.args.handed.now.ok.0,
      l.handed.ok.0,
      c.requires,
    ) in
    none_some c.pop_front.result is (c.pop_front.ensures.variant.1 some)

pub returns : goal.returns
returns c =
    let l = c.loop-number in
    let none : l.handed.items ≡ [] = none_of l.handed.items (omega (
      arith,
      l.invariant.left,
      l.auto.number-end,
      c.loop-number-test.false,
      c.len-number-end.ensures,
      c.args.handed.now.ok.0,
      c.requires,
    )) in
    l.invariant.rest l.parts l.senders.items
    (subst (λ (es : List Effects).
    HandsAllOut l.number es l.parts l.senders.items l.parts l.senders.items) (sym none)
    (none_behind l.parts l.senders.items))
