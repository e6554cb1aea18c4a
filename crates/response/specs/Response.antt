-- Document 01, "Response and prediction", over any signal x of period P. Indices count modulo P: x(j-k) is x ((j + (P - k)) % P) for k up to
-- P. Assumes nothing.
use Rattle.std.specs.Prelude.{◌≡◌, ℕ, ◌+◌, ◌-◌, ◌%◌, ◌<◌, ℤ, pos, negsuc, ◌-ℤ◌, ◌*ℤ◌}
use Rattle.sums.specs.Sum.{sum}

-- c(k), the sum over j of y(j)·x(j-k)
unfoldable pub correlation : ℕ → (ℕ → ℤ) → (ℕ → ℤ) → ℕ → ℤ
correlation P x y k = sum P (λ j. y j *ℤ x ((j + (P - k)) % P))

-- r(k), c(k) minus the sum of all y(j)
unfoldable pub response : ℕ → (ℕ → ℤ) → (ℕ → ℤ) → ℕ → ℤ
response P x y k = correlation P x y k -ℤ sum P y

-- y(j), the sum over i of h(i)·x(j-i)
unfoldable pub prediction : ℕ → (ℕ → ℤ) → (ℕ → ℤ) → ℕ → ℤ
prediction P x h j = sum P (λ i. h i *ℤ x ((j + (P - i)) % P))

-- the autocorrelation at shift d, the sum over j of x(j)·x(j+d)
unfoldable pub autocorrelation : ℕ → (ℕ → ℤ) → ℕ → ℤ
autocorrelation P x d = sum P (λ j. x j *ℤ x ((j + d) % P))

-- all that recovering a response asks of a signal: its sum is -1, and its autocorrelation P at shift 0 and -1 at every other
pub record Flat (P : ℕ) (x : ℕ → ℤ) : Type 0 where
  pub mean : sum P x ≡ negsuc 0
  pub power : sum P (λ j. x j *ℤ x j) ≡ pos P
  pub shifted : (d : ℕ) → 0 < d → d < P → sum P (λ j. x j *ℤ x ((j + d) % P)) ≡ negsuc 0
