-- Which choice comes next, and when there is none.
use Rattle.std.proofs.Common.{◌≡◌, ℕ, zero, suc, ◌<◌, List, [], ◌∷◌, length, Option, Some, None}
use Rattle.std.proofs.Common.{Bool, true, refl, sym, ap, ◌∙◌, arith}
use Rattle.std.specs.Prelude.{slice_get, ◌↔◌, IsTrue, IfNone, IfSome, nat_lt}
use Rattle.std.proofs.lemmas.Option.{slice_get_within}
use Rattle.std.proofs.lemmas.Bool.Decides.{nat_tests}
use Rattle.env_store.specs.CodeParts.{CodeParts}
use Rattle.env_store.specs.CodeFacts.{IsCode}
use Rattle.loc_tree.specs.Tree.{Tree}
use Rattle.net_laws.specs.Site.{Site}
use Rattle.net_laws.specs.Net.{Addressed, Net}
use Rattle.net_core.specs.declared.choice.Choice.{Choice}
use Rattle.net_core.specs.declared.choice.Choice.TheVariants as choice
use Rattle.net_core.specs.Enabled.{IsEnabled, react, deliver, move, halt, detect}
use Rattle.net_core.specs.Choosing.{MayReact, MayDeliver, Allows, NoneReacts, IsNext, request_of}
use Rattle.net_core.specs.Choosing.{NoneMeetsAny}
use Rattle.net_core.specs.Choosing as next
use Rattle.net_core.specs.Resting.{IsNoneWhereQuiet}
use Rattle.net_core.proofs.Enabling.{none_enabled_is_quiet}
use Rattle.net_core.proofs.SiteReactions.{fires_reacts}
use Rattle.net_core.specs.inside.Searched.{HasSites, IsFirstMeeting}

-- ---- packets

first_packet : (ps : List Addressed) → 0 < length ps → (p : Addressed) × (slice_get ps 0 ≡ Some p)
first_packet [] h = absurd (omega arith)
first_packet (p ∷ ps) h = (p, refl)

packet_at : (ps : List Addressed) (f : ℕ) → f < length ps
    → (p : Addressed) × (slice_get ps f ≡ Some p)
packet_at [] f h = absurd (omega arith)
packet_at (p ∷ ps) zero h = (p, refl)
packet_at (p ∷ ps) (suc f) h = packet_at ps f (omega arith)

no_packets : (ps : List Addressed) → length ps ≡ 0 → ps ≡ []
no_packets [] e = refl
no_packets (p ∷ ps) e = absurd (omega arith)

module _ (net : Net) (n : ℕ) (count : length net.packets ≡ n) where
  pub may_deliver : (f : ℕ) (r : Bool) → (r ≡ nat_lt f n) → IsTrue r ↔ MayDeliver net f
  may_deliver f r is = (to, back)
    where
      to : IsTrue r → MayDeliver net f
      to e =
          let less : nat_lt f n ≡ true = sym is ∙ e in
          let at = packet_at net.packets f (below less) in
          record { packet = at.0; packet_is = at.1 }
        where
          below : nat_lt f n ≡ true → f < length net.packets
          below h = grind (arith, nat_tests)

      back : MayDeliver net f → IsTrue r
      back may =
          let within : f < length net.packets =
          slice_get_within net.packets f may.packet may.packet_is in
          is ∙ above within
        where
          above : f < length net.packets → nat_lt f n ≡ true
          above h = grind (arith, nat_tests)

  pub first_delivered : (c : CodeParts) → 0 < n → IsNext c net (choice.Deliver 0)
  first_delivered c some =
      let at = first_packet net.packets (omega arith) in
      next.deliver (record { packet = at.0; packet_is = at.1 })

  pub none_under_way : n ≡ 0 → net.packets ≡ []
  none_under_way e = no_packets net.packets (count ∙ e)

-- ---- all choices

-- whatever choice is enabled, some is, and the other way round
pub none_enabled : (c : CodeParts) (net : Net) → ((x : Choice) → Allows c net x → ⊥)
    → IsEnabled c net → ⊥
none_enabled c net none (react i j k by fronts) =
    none (choice.React i (record { group = j; guard = k })) (record { by = by; fronts = fronts })
none_enabled c net none (deliver f p e) =
    none (choice.Deliver f) (record { packet = p; packet_is = e })
none_enabled c net none (move a go) = none (choice.Move a) go
none_enabled c net none (halt a h) = none (choice.Halt a) h
none_enabled c net none (detect a h) = none (choice.Detect a) h

pub allowed_enabled : (c : CodeParts) (net : Net) (x : Choice) → Allows c net x → IsEnabled c net
allowed_enabled c net (choice.React i p) may = react i p.group p.guard may.by may.fronts
allowed_enabled c net (choice.Deliver f) may = deliver f may.packet may.packet_is
allowed_enabled c net (choice.Move a) may = move a may
allowed_enabled c net (choice.Halt a) may = halt a may
allowed_enabled c net (choice.Detect a) may = detect a may

no_delivery : (net : Net) (f : ℕ) → net.packets ≡ [] → MayDeliver net f → ⊥
no_delivery net f none may =
    let e : slice_get [] f ≡ Some may.packet =
    ap (λ ps. slice_get ps f) (sym none) ∙ may.packet_is in
    cc

pub none_comes : (c : CodeParts) (net : Net) → net.packets ≡ [] → NoneReacts c net
    → NoneMeetsAny c net → (x : Choice) → Allows c net x → ⊥
none_comes c net empty none not (choice.React i p) may = none i p may
none_comes c net empty none not (choice.Deliver f) may = no_delivery net f empty may
none_comes c net empty none not (choice.Move a) may = not (choice.Move a) a refl may
none_comes c net empty none not (choice.Halt a) may = not (choice.Halt a) a refl may
none_comes c net empty none not (choice.Detect a) may = not (choice.Detect a) a refl may

-- ---- where nothing is under way, and no site is ready

module _ (version : ℕ) (sites : List Site) (t : Tree) (c : CodeParts) (packets : ℕ) where
  none_under : (net : Net) → length net.packets ≡ packets → packets ≡ 0 → net.packets ≡ []
  none_under net count zero_is = no_packets net.packets (count ∙ zero_is)

  pub none_after : (o : Option Choice) → packets ≡ 0
      → ((net : Net) → HasSites sites t net → NoneReacts c net)
      → IfNone o ((d : CodeParts) (net : Net) → HasSites sites t net → net.version ≡ version
      → NoneMeetsAny d net)
      → IfNone o ((net : Net) → HasSites sites t net → net.version ≡ version
      → length net.packets ≡ packets → (x : Choice) → Allows c net x → ⊥)
  none_after None zero_is none not = λ net parts same count.
      none_comes c net (none_under net count zero_is) (none net parts) (not c net parts same)
  none_after (Some x) zero_is none not = tt

  pub first_after : (o : Option Choice) → packets ≡ 0
      → ((net : Net) → HasSites sites t net → NoneReacts c net)
      → IfSome o (λ x. (d : CodeParts) (net : Net) → HasSites sites t net → net.version ≡ version
      → IsFirstMeeting d net x)
      → IfSome o (λ x. (net : Net) → HasSites sites t net → net.version ≡ version
      → length net.packets ≡ packets → IsNext c net x)
  first_after None zero_is none first = tt
  first_after (Some x) zero_is none first = λ net parts same count.
      let meets = first c net parts same in
      next.meet meets.0 x (none_under net count zero_is) (none net parts) meets.1

-- ---- of one network

module _ (version : ℕ) (sites : List Site) (t : Tree) (c : CodeParts) (packets : ℕ) (net : Net)
    (parts : HasSites sites t net) (same : net.version ≡ version)
    (count : length net.packets ≡ packets) where
  pub none_of : (o : Option Choice)
      → IfNone o ((net : Net) → HasSites sites t net → net.version ≡ version
      → length net.packets ≡ packets → (x : Choice) → Allows c net x → ⊥)
      → IfNone o ((x : Choice) → Allows c net x → ⊥)
  none_of None none = none net parts same count
  none_of (Some x) none = tt

  pub some_of : (o : Option Choice)
      → IfSome o (λ x. (net : Net) → HasSites sites t net → net.version ≡ version
      → length net.packets ≡ packets → IsNext c net x)
      → IfSome o (IsNext c net)
  some_of None some = tt
  some_of (Some x) some = some net parts same count

module _ (c : CodeParts) (net : Net) (code : IsCode c) where
  next_allows : (x : Choice) → IsNext c net x → Allows c net x
  next_allows _ (next.deliver may) = may
  next_allows _ (next.react i p empty first) =
      fires_reacts c net code i first.site p first.ready.pick first.site_is first.ready.fires
  next_allows _ (next.meet a x empty none first) = first.allowed

  pub none_where_quiet : (o : Option Choice) → IfNone o ((x : Choice) → Allows c net x → ⊥)
      → IfSome o (IsNext c net) → IsNoneWhereQuiet c net o
  none_where_quiet None none some p n ok is stands runs =
      let law = none_enabled_is_quiet p c ok code is net n stands runs in
      ((λ e. law.0 (none_enabled c net none)), (λ quiet. refl))
  none_where_quiet (Some x) none some p n ok is stands runs =
      let law = none_enabled_is_quiet p c ok code is net n stands runs in
      ((λ e. cc), (λ quiet. absurd (law.1 quiet (allowed_enabled c net x (next_allows x some)))))
