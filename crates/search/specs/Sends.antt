-- The profiles that a join may send, each with the servers that may see it.
use Rattle.std.specs.Prelude.{◌≡◌, ℕ, ◌<◌, Bool}
use Rattle.sets.specs.Sets.{has}
use Rattle.profile.specs.declared.shape.Profile.{Profile}
use Rattle.profile.specs.declared.join.Join.{Join}
use Rattle.profile.specs.declared.join.Side.TheVariants.{Left, Right}
use Rattle.profile.specs.Joins.{column, reply}
use Rattle.search.specs.declared.sends.Sending.{Sending}
use Rattle.search.specs.declared.sends.Sends.{Sends}

-- of this profile, the set has the receivers below n
pub record Told (may : ℕ → Profile → Bool) (n : ℕ) (p : Profile) (x : Sending) : Type 0 where
  pub profile : x.profile ≡ p
  pub receivers : (s : ℕ) → s < n → has x.receivers s ≡ may s p

-- of all that a join may send
pub record Sent (may : ℕ → Profile → Bool) (n : ℕ) (j : Join) (v : Sends) : Type 0 where
  pub left : Told may n j.left v.left
  pub right : Told may n j.right v.right
  pub left_column : Told may n (column j Left) v.left_column
  pub left_reply : Told may n (reply j Left) v.left_reply
  pub right_column : Told may n (column j Right) v.right_column
  pub right_reply : Told may n (reply j Right) v.right_reply
