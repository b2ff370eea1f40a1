-- The site that sends what a choice sends is one.
use Rattle.std.proofs.Common.{◌≡◌, ℕ, refl, sym, ap}
use Rattle.chem_model.specs.declared.name.Loc.{Loc}
use Rattle.chem_model.specs.declared.event.AtomId.{AtomId}
use Rattle.chem_model.specs.declared.numbered.Numbered.{Numbered}
use Rattle.chem_model.specs.ProgramFacts.{ProgramTerms}
use Rattle.env_store.specs.CodeParts.{CodeParts}
use Rattle.env_store.specs.Laws.{rules_of_group}
use Rattle.reducer.specs.declared.pick.Pick.{Pick}
use Rattle.net_laws.specs.Net.{Addressed, Net, Stands}
use Rattle.net_laws.specs.Opened.{RunsCode}
use Rattle.std.specs.Prelude.{Some, slice_get}
use Rattle.net_core.specs.declared.choice.Choice.{Choice}
use Rattle.net_core.specs.declared.choice.Choice.TheVariants as choice
use Rattle.net_core.specs.Acting.{Asks, MayGo}
use Rattle.net_core.specs.Senders.{IsSentBy}
use Rattle.net_core.specs.Senders as senders
use Rattle.net_core.proofs.OneAnswer.{one_of, same_request, same_go}

module _ (p : ProgramTerms) (c : CodeParts) (net : Net) (n : Numbered)
    (stands : Stands (rules_of_group p) net n) (runs : RunsCode p c net) where
  of_react : (i : ℕ) (q : Pick) (j : ℕ) → IsSentBy net (choice.React i q) j → j ≡ i
  of_react i q j (senders.react _ _) = refl

  of_deliver : (f : ℕ) (m : Addressed) → slice_get net.packets f ≡ Some m → (j : ℕ)
      → IsSentBy net (choice.Deliver f) j → j ≡ m.target
  of_deliver f m at j (senders.deliver _ k also) =
      ap (λ (a : Addressed). a.target) (one_of (slice_get net.packets f) k m also at)

  of_move : (a : AtomId) (go : MayGo net a) (j : ℕ) → IsSentBy net (choice.Move a) j
      → j ≡ go.target.site
  of_move a go j (senders.move _ other) =
      ap (λ (l : Loc). l.site) (same_go p c net n stands runs a other go).target

  of_halt : (a : AtomId) (asks : Asks net a) (j : ℕ) → IsSentBy net (choice.Halt a) j
      → j ≡ asks.number
  of_halt a asks j (senders.halt _ other) = (same_request p c net n stands runs a other asks).number

  of_detect : (a : AtomId) (asks : Asks net a) (j : ℕ) → IsSentBy net (choice.Detect a) j
      → j ≡ asks.number
  of_detect a asks j (senders.detect _ other) =
      (same_request p c net n stands runs a other asks).number

  pub sender_is_one : (x : Choice) (i j : ℕ) → IsSentBy net x i → IsSentBy net x j → i ≡ j
  sender_is_one x i j (senders.react _ q) other = sym (of_react i q j other)
  sender_is_one x i j (senders.deliver f m at) other = sym (of_deliver f m at j other)
  sender_is_one x i j (senders.move a go) other = sym (of_move a go j other)
  sender_is_one x i j (senders.halt a asks) other = sym (of_halt a asks j other)
  sender_is_one x i j (senders.detect a asks) other = sym (of_detect a asks j other)
