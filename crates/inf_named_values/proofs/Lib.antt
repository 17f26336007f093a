pub mod ValuesStay
