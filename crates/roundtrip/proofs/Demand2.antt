-- DEMAND 2, proved. Assumes nothing.
use Rattle.roundtrip.specs.Demand2.{Demand2}
use Rattle.roundtrip.proofs.ReadBack.{written-as, read_as}
use Rattle.roundtrip.proofs.OnlyHeader.{only-header}
use Rattle.roundtrip.proofs.WrittenAgain.{record-valid, written-again}
use Rattle.roundtrip.proofs.UnusedZero.{unused-zero}
use Rattle.roundtrip.proofs.Calls.{read-clean, read-refused, came-back, went-out}

pub demand-2 : Demand2
demand-2 =
    record {
      written = λ h count v out room. written-as h count v out room;
      only = only-header;
      read_back = λ h count v d many. read_as h count v d many;
      valid = λ s h n o e. record-valid s o n h e;
      unused_zero = unused-zero;
      again = λ s h n o e out room. written-again s o n h e out room;
      read_clean = λ s before r after call fine. read-clean s before r after call fine;
      read_refused = read-refused;
      write_read = λ octets count v out room w out' wrote d many before r after call. came-back octets count v out room w out' wrote d many before r after call;
      read_write = λ s o before r after call fine out room w out' wrote. went-out s o before r after call fine out room w out' wrote;
    }
