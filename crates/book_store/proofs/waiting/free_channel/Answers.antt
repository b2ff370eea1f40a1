-- Each rule with one of the keys is watched again, and then the keys of the channel go.
use Rattle.std.proofs.Common.{List, refl, sym, subst, ◌⊎◌}
use Rattle.chem_model.specs.Numbered.{standing}
use Rattle.chem_model.specs.Each.{IsIn}
use Rattle.chem_commit.proofs.Founds.{rules_differ}
use Rattle.book_store.specs.Keys.{Key}
use Rattle.book_store.specs.Watched.{no_number, AreWatched, IsWatchedAt}
use Rattle.book_store.proofs.KeyRange.{key_at, key_is, one_more, none_yet, at_last}
use Rattle.book_store.proofs.Watching.{id_of, keeps_all, keeps_both, still_at, all_still}
use Rattle.book_store.proofs.Watching.{any_channels, all_freed}
use Rattle.book_store.proofs.waiting.free_channel.Goals as goal

pub loop-key-init : goal.loop-key-init
loop-key-init c = record {
  kept = keeps_all c.args.waiting.now;
  done = none_yet (λ k. IsWatchedAt c.args.channel (standing c.args.numbered.now.places)
      c.args.older.now.keys.keys c.args.waiting.now c.args.numbered.now.rules (id_of k))
      c.as_slice-key-items.result.now;
}

pub loop-key-preserved : goal.loop-key-preserved
loop-key-preserved c =
    let pl = standing c.args.numbered.now.places in
    let keys = c.args.older.now.keys.keys in
    let rules = c.args.numbered.now.rules in
    let old = c.loop-key.waiting in
    let new = c.watch_again.new.waiting in
    let more = c.in_ok-watch_again.ensures.kept in
    let slice = c.as_slice-key-items.result.now in
    let i = c.loop-key.key-index in
    let low = c.loop-key-test.true in
    record {
      kept = keeps_both c.args.waiting.now old new c.loop-key.invariant.kept more;
      done = one_more (λ k. IsWatchedAt c.args.channel pl keys old rules (id_of k))
          (λ k. IsWatchedAt c.args.channel pl keys new rules (id_of k)) slice i (key_at slice i) low
          (key_is slice i low) (λ k. still_at c.args.channel pl keys old new rules (id_of k) more)
          c.in_ok-watch_again.ensures.watched c.loop-key.invariant.done;
    }

pub returns-in_err-watch_again-clause-watched : goal.returns-in_err-watch_again-clause-watched
returns-in_err-watch_again-clause-watched c = all_still no_number
    (standing c.args.numbered.now.places) c.args.older.now.keys.keys c.args.waiting.now
    c.watch_again.new.waiting c.args.numbered.now.rules
    (keeps_both c.args.waiting.now c.loop-key.waiting c.watch_again.new.waiting
    c.loop-key.invariant.kept c.in_err-watch_again.ensures.kept) c.requires.watched

pub returns : goal.returns
returns c =
    let pl = standing c.args.numbered.now.places in
    let keys = c.args.older.now.keys.keys in
    let rules = c.args.numbered.now.rules in
    let w = c.loop-key.waiting in
    let list = c.in_ok-filed.filed.items in
    let slice = c.as_slice-key-items.result.now in
    let same = c.as_slice-key-items.ensures.value in
    let last = c.forget_filed.new.filed.keys in
    let free : AreWatched c.args.channel pl keys (record w { filed = c.forget_filed.new.filed })
    rules =
    all_freed c.args.channel pl keys rules (rules_differ c.args.numbered.now c.requires.sound)
    c.args.waiting.now w (record w { filed = c.forget_filed.new.filed }) list c.requires.watched
    c.in_ok-filed.ensures.all c.in_ok-filed.ensures.only c.loop-key.invariant.kept
    (λ k at. at_last (λ j. IsWatchedAt c.args.channel pl keys w rules (id_of j)) slice
    c.loop-key.key-index c.loop-key-test.false c.loop-key.invariant.done k
    (subst (λ (l : List Key). IsIn k l) (sym same) at))
    refl (record { sites = λ k at. at; places = λ k at. at })
    (λ k at. subst (λ (l : List Key). IsIn k l ⊎ IsIn k last) c.as_slice.ensures.value
    (c.forget_filed.ensures k at)) in
    record {
      watched = any_channels c.args.channel pl keys (record w { filed = c.forget_filed.new.filed })
          rules free;
      free = free;
    }
