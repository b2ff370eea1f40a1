-- What contracts see of groups of queues.
use Rattle.std.specs.Prelude.{◌≡◌, ℕ, zero, suc, ◌+◌, ◌<◌, Bool, true, cond, List, [], ◌∷◌, ◌++◌}
use Rattle.std.specs.Prelude.{length, refl, slice_index_or, slice_set, replicate, sum_by}
use Rattle.std.specs.Coded.{Coded, code_by, coded×, coded_ℕ, coded_list}
use Rattle.status_words.specs.Words.{has_bit}

-- what is told of a group, and the messages of each of its queues in order of arrival
pub record Queued (G T : Type 0) : Type 0 where
  pub told : G
  pub lists : List (List T)

-- the groups in order; how many more messages fit with no allocation, in whatever queues; and how
-- many more groups do
pub record Grouped (G T : Type 0) : Type 0 where
  pub groups : List (Queued G T)
  pub spare : ℕ
  pub spare_groups : ℕ

-- what is told of a group to come, and how many queues it has
pub record ForGroup (G : Type 0) : Type 0 where
  pub told : G
  pub width : ℕ

module _ {G T : Type 0} where
  -- a group of so many queues, each of them empty
  abbrev pub idle_group : G → ℕ → Queued G T
  idle_group g n = record { told = g; lists = replicate n [] }

  -- the queues of a group, those of the first at 0
  abbrev pub lists_at : List (Queued G T) → ℕ → List (List T)
  lists_at [] group = []
  lists_at (q ∷ qs) zero = q.lists
  lists_at (q ∷ qs) (suc group) = lists_at qs group

  -- one queue of a group
  abbrev pub queue_in : List (Queued G T) → ℕ → ℕ → List T
  queue_in qs group chan = slice_index_or (lists_at qs group) chan []

  -- the groups with another list of messages in one queue
  abbrev pub with_queue : List (Queued G T) → ℕ → ℕ → List T → List (Queued G T)
  with_queue [] group chan ms = []
  with_queue (q ∷ qs) zero chan ms =
      record { told = q.told; lists = slice_set q.lists chan ms } ∷ qs
  with_queue (q ∷ qs) (suc group) chan ms = q ∷ with_queue qs group chan ms

  -- the groups with one message more, behind the others of one queue
  abbrev pub with_last : List (Queued G T) → ℕ → ℕ → T → List (Queued G T)
  with_last qs group chan m = with_queue qs group chan (queue_in qs group chan ++ m ∷ [])

module _ {T : Type 0} where
  -- how many messages stand in these queues
  abbrev pub waiting : List (List T) → ℕ
  waiting lists = sum_by length lists

  -- every number of the mask is that of a queue that isn't empty
  abbrev pub AllHeld : List (List T) → List ℕ → Type 0
  AllHeld lists mask = (i : ℕ) → has_bit mask i ≡ true → 0 < length (slice_index_or lists i [])

module _ {G T : Type 0} (is_selected : G → Bool) where
  -- the groups that aren't selected by what is told of them
  abbrev pub but_where : List (Queued G T) → List (Queued G T)
  but_where [] = []
  but_where (q ∷ qs) = cond (is_selected q.told) (but_where qs) (q ∷ but_where qs)

  -- how many messages stand in those that are
  abbrev pub waiting_where : List (Queued G T) → ℕ
  waiting_where [] = 0
  waiting_where (q ∷ qs) = cond (is_selected q.told) (waiting q.lists) 0 + waiting_where qs

-- each record is stored as the tuple of its fields
abbrev pub queued_code : {G T : Type 0} → Coded G → Coded T → Coded (Queued G T)
queued_code {G} {T} told_code code =
    code_by
    (G × List (List T))
    (coded× told_code (coded_list (coded_list code)))
    (λ q. (q.told, q.lists))
    (λ p. record { told = p.0; lists = p.1 })
    (λ _. refl)

abbrev pub grouped_code : {G T : Type 0} → Coded G → Coded T → Coded (Grouped G T)
grouped_code {G} {T} told_code code =
    code_by
    (List (Queued G T) × (ℕ × ℕ))
    (coded× (coded_list (queued_code told_code code)) (coded× coded_ℕ coded_ℕ))
    (λ q. (q.groups, (q.spare, q.spare_groups)))
    (λ p. record { groups = p.0; spare = p.1.0; spare_groups = p.1.1 })
    (λ _. refl)

abbrev pub for_group_code : {G : Type 0} → Coded G → Coded (ForGroup G)
for_group_code {G} told_code =
    code_by
    (G × ℕ)
    (coded× told_code coded_ℕ)
    (λ i. (i.told, i.width))
    (λ p. record { told = p.0; width = p.1 })
    (λ _. refl)
