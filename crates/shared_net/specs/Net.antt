-- What contracts see of a shared network. What stands behind its locks no clause can name.
use Rattle.std.specs.Prelude.{ℕ, ◌<◌, ◌≤◌, refl}
use Rattle.std.specs.Coded.{Coded, code_by, coded×, coded_ℕ}
use Rattle.chem_model.specs.ProgramFacts.{ProgramTerms, most_sites}
use Rattle.chem_model.specs.ProgramCode.{program_code}

pub record NetKept : Type 0 where
  pub program : ProgramTerms
  pub budget : ℕ
  pub sites : ℕ

-- a program may have so many sites, by the version that allows more
abbrev pub IsCountOfSites : ℕ → Type 0
IsCountOfSites count = (0 < count) × (count ≤ most_sites 2)

abbrev pub net_code : Coded NetKept
net_code =
    code_by (ProgramTerms × (ℕ × ℕ)) (coded× program_code (coded× coded_ℕ coded_ℕ))
    (λ n. (n.program, (n.budget, n.sites)))
    (λ t. record { program = t.0; budget = t.1.0; sites = t.1.1 })
    (λ _. refl)
