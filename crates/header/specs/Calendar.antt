-- How many days a month has, by the year's last two digits, year 0 being 2000.
use Rattle.std.specs.Prelude.{ℕ, ◌%◌, ◌||◌, eqb}
use Rattle.codec.specs.Answer.{pick}

-- February has 29 in each year that divides by four, 28 in the others; April, June, September and November have 30
unfoldable pub days_in : ℕ → ℕ → ℕ
days_in year month =
    pick (eqb month 2) (pick (eqb (year % 4) 0) 29 28)
    (pick (eqb month 4 || eqb month 6 || eqb month 9 || eqb month 11) 30 31)
