-- A valid record's checks, one by one. Assumes nothing.
use Prim.Native.Nat.{ℕ, ◌+◌, ◌≤◌}
use mathlib.Core.Path.{◌≡◌}
use lib.Dec.{leb, lit<}
use borrow.Author.Tests.{leb-true}
use Rattle.bits.specs.Units.{datagram_limit}
use Rattle.codec.proofs.ListLaws.{fine-legal}
use Rattle.codec.specs.Verdict.{plain}
use Rattle.codec.proofs.Verdicts.{first_fine}
use Rattle.header.specs.declared.Header.{Header}
use Rattle.writer.specs.Writing.{header_size, fields_fault, record_verdict, fault_of, ValidRecord}

pub record Valid (h : Header) (count : ℕ) : Type 0 where
  pub fields : fields_fault h ≡ 0
  pub judged : (record_verdict h count).number ≡ 0
  pub short : header_size h + count ≤ datagram_limit

pub valid-parts : (h : Header) (count : ℕ) → ValidRecord h count → Valid h count
unfolding fault_of
valid-parts h count v =
    let a = first_fine (plain (fields_fault h)) _ v in
    let b = first_fine (record_verdict h count) _ a.1 in
    record {
      fields = a.0;
      judged = b.0;
      short = leb-true (header_size h + count) datagram_limit (fine-legal (leb (header_size h + count) datagram_limit) 0 12 (lit< tt) b.1).0;
    }
